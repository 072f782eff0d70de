use mathlib.Core.Path.{refl, sym, ◌∙◌}
use Prim.Native.Nat.{◌-◌}
use Rattle.lint_collect.proofs.Laws as entry
use Rattle.lint_entry.proofs.Laws as laws
use Rattle.lint_entry.proofs.first_sets.Goals as goal

pub loop-i-init : goal.loop-i-init
loop-i-init c = laws.first_is _ _

pub loop-i-preserved : goal.loop-i-preserved
loop-i-preserved c = c.loop-i.invariant ∙ entry.fill_more _ _ _ _ c.loop-i-test.true refl

pub returns : goal.returns
returns c = sym (c.loop-i.invariant ∙ entry.fill_end _ _ _ _ c.loop-i-test.false)
