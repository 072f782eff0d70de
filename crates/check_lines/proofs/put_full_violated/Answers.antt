use Rattle.show.proofs.Laws as show
use Rattle.check_lines.proofs.Laws as laws
use Rattle.check_lines.proofs.put_full_violated.Goals as goal

pub returns : goal.returns
returns c =
    show.is (laws.full_is _ c.args.v) (show.both c.put-a.ensures
    (show.both c.put_quoted_identifier-b.ensures
    (show.both c.put_moment-c.ensures (show.both c.put_origin-d.ensures
    (show.both c.put_byte-e.ensures (show.both c.put_message-g.ensures
    c.put_byte.ensures))))))
