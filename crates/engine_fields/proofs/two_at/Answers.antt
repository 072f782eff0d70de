use native.Mathlib.Omega.{arith}
use Rattle.engine_fields.proofs.Laws as laws
use Rattle.engine_fields.proofs.two_at.Goals as goal

pub returns-then-at-f : goal.returns-then-at-f
returns-then-at-f c = (laws.two_is _ _ _ _ c.byte_at.ensures.0 c.byte_at-then-at-f.ensures.0, omega arith)

pub returns : goal.returns
returns c = (laws.two_past _ _ (omega arith), omega arith)
