use Rattle.show.proofs.Laws as show
use Rattle.check_lines.proofs.Laws as laws
use Rattle.check_lines.proofs.put_full_reason.Goals as goal

pub returns : goal.returns
returns c =
    show.is (laws.full_reason_is _ _ _ _ c.get-r.ensures)
    (show.both c.put-j.ensures (show.both c.put_byte-k.ensures
    (show.both c.put_quoted_reason-l.ensures c.put_byte.ensures)))
