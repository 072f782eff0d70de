use mathlib.Core.Path.{sym}
use Prim.Native.Nat.{◌-◌}
use Rattle.lint_conditions.proofs.Laws as laws
use Rattle.lint_conditions.proofs.greater.Goals as goal

pub returns-then-a-b : goal.returns-then-a-b
returns-then-a-b c = sym (laws.greater_yes _ _ c.if-a-b.true)

pub returns : goal.returns
returns c = sym (laws.greater_no _ _ c.if-a-b.false)
