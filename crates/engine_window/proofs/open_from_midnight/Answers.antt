use mathlib.Core.Path.{refl}
use Rattle.engine_window.proofs.Laws as laws
use Rattle.engine_window.proofs.open_from_midnight.Goals as goal

pub returns-then-second-end : goal.returns-then-second-end
returns-then-second-end c =
    laws.tail_before _ _ _ _ _
    _ c.if-second-end.true refl c.marks.ensures

pub returns : goal.returns
returns c = laws.tail_over _ _ _ _ c.if-second-end.false
