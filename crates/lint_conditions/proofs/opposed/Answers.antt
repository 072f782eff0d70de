use borrow.Author.Rules.{rules}
use mathlib.Core.Path.{sym}
use Prim.Native.Nat.{◌-◌}
use Rattle.lint_conditions.proofs.Laws as laws
use Rattle.lint_conditions.proofs.opposed.Goals as goal

pub returns-then-x-y : goal.returns-then-x-y
returns-then-x-y c = sym (laws.opposed_other _ _ _ _ _ c.if-x-y.true)

pub returns-then-v-u : goal.returns-then-v-u
returns-then-v-u c = sym (laws.opposed_values _ _ _ _ _ (search rules) c.if-v-u.true)

pub returns : goal.returns
returns c = laws.opposed_star _ _ _ _ _ (search rules) (search rules)
