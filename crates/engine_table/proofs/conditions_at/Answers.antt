use native.Mathlib.Omega.{arith}
use Rattle.engine_table.proofs.Laws as laws
use Rattle.engine_table.proofs.conditions_at.Goals as goal

pub returns : goal.returns
returns c = (laws.conditions_are _ _ c.two_at-many.ensures.0, omega (arith, c.two_at-many.ensures.1))
