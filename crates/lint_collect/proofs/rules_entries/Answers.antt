use borrow.Author.Rules.{rules}
use mathlib.Core.Path.{refl, sym, ◌∙◌}
use Prim.Native.Nat.{◌-◌}
use Rattle.lint_findings.proofs.Laws as items
use Rattle.lint_collect.proofs.Laws as laws
use Rattle.lint_collect.proofs.rules_entries.Goals as goal

pub loop-i-init : goal.loop-i-init
loop-i-init c = (laws.rules_is _ _ _ _, (refl, refl))

pub loop-i-preserved : goal.loop-i-preserved
loop-i-preserved c = (c.loop-i.invariant.0 ∙ items.numbers_more _ _ _ _ c.loop-i-test.true c.rule_entries-out.ensures, search rules)

pub returns : goal.returns
returns c = sym (c.loop-i.invariant.0 ∙ items.numbers_end _ _ _ _ c.loop-i-test.false)
