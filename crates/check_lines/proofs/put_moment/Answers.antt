use Rattle.show.proofs.Laws as show
use Rattle.check_lines.proofs.Laws as laws
use Rattle.check_lines.proofs.put_moment.Goals as goal

pub returns : goal.returns
returns c =
    show.is (laws.moment_is _ _) (show.both c.put_byte-a.ensures
    (show.both c.put_number-b.ensures (show.both c.put_byte-c.ensures
    (show.both c.put_number-d.ensures c.put_byte.ensures))))
