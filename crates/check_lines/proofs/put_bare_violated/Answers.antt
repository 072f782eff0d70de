use Rattle.show.proofs.Laws as show
use Rattle.check_lines.proofs.Laws as laws
use Rattle.check_lines.proofs.put_bare_violated.Goals as goal

pub returns : goal.returns
returns c =
    show.is (laws.bare_is _ c.args.v) (show.both c.put-a.ensures
    (show.both c.put_identifier-b.ensures (show.both c.put_moment-c.ensures
    (show.both c.put_origin-d.ensures c.put_byte.ensures))))
