use native.Mathlib.Omega.{arith}
use Rattle.engine_fields.proofs.Laws as laws
use Rattle.engine_fields.proofs.text_position.Goals as goal

pub returns-then-place-two_at : goal.returns-then-place-two_at
returns-then-place-two_at c =
    laws.position_near _ _ c.two_at.ensures.0 c.if-place-two_at.true c.capped.ensures
    c.text_start.ensures

pub returns : goal.returns
returns c = laws.position_far _ _ c.two_at.ensures.0 (omega arith)
