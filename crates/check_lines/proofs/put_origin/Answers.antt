use Rattle.show.proofs.Laws as show
use Rattle.check_lines.proofs.Laws as laws
use Rattle.check_lines.proofs.put_origin.Goals as goal

pub returns-then-sourced-eq0 : goal.returns-then-sourced-eq0
returns-then-sourced-eq0 c =
    show.is (laws.nowhere _ _ _ c.if-sourced-eq0.true)
    c.put_byte.ensures

pub returns : goal.returns
returns c =
    show.is (laws.somewhere _ _ _ c.if-sourced-eq0.false) (show.both c.put_number-a.ensures
    (show.both c.put_byte-b.ensures c.put_number.ensures))
