use borrow.Author.Rules.{rules}
use mathlib.Core.Path.{refl, sym, ◌∙◌}
use Prim.Native.Nat.{◌-◌}
use Rattle.lint_findings.proofs.Laws as items
use Rattle.lint_pairs.proofs.Laws as laws
use Rattle.lint_pairs.proofs.oppose_pair.Goals as goal

pub loop-k-init : goal.loop-k-init
loop-k-init c = ((λ i. laws.pairs_is _ _ _ _ _ _), refl)

pub loop-k-preserved : goal.loop-k-preserved
loop-k-preserved c = (
  (λ i. c.loop-k.invariant.0 i ∙ items.numbers_more _ _ _ _ c.loop-k-test.true
      (c.oppose_row-out.ensures i)),
  search rules,
)

pub returns : goal.returns
returns c = λ i. sym (c.loop-k.invariant.0 i ∙ items.numbers_end _ _ _ _ c.loop-k-test.false)
