use native.Mathlib.Omega.{arith}
use Rattle.engine_fields.proofs.Laws as laws
use Rattle.engine_fields.proofs.four_at.Goals as goal

pub returns-then-f-lt2 : goal.returns-then-f-lt2
returns-then-f-lt2 c = laws.four_past _ _ _ c.two_at.ensures.0 (omega arith)

pub returns-then-at-f : goal.returns-then-at-f
returns-then-at-f c = laws.four_is _ _ _ _ c.two_at-then-at-f.ensures.0 c.two_at-then-at-f-2.ensures.0

pub returns : goal.returns
returns c = laws.four_past _ _ _ c.two_at-2.ensures.0 (omega arith)
