use borrow.Author.Rules.{rules}
use mathlib.Core.Path.{refl, sym, ◌∙◌}
use Prim.Native.Nat.{◌-◌}
use Rattle.lint_findings.proofs.Laws as items
use Rattle.lint_collect.proofs.Laws as laws
use Rattle.lint_collect.proofs.cycle_entries.Goals as goal

pub loop-i-init : goal.loop-i-init
loop-i-init c = ((λ k. laws.cycles_is _ _ _ _ _), refl)

pub loop-i-preserved : goal.loop-i-preserved
loop-i-preserved c = (
  (λ k. c.loop-i.invariant.0 k ∙ items.numbers_more _ _ _ _ c.loop-i-test.true
      (items.one_finding _ c.cycle_words.ensures (c.push_finding-out.ensures k))),
  search rules,
)

pub returns : goal.returns
returns c = λ k. sym (c.loop-i.invariant.0 k ∙ items.numbers_end _ _ _ _ c.loop-i-test.false)
