use borrow.Author.Rules.{rules}
use mathlib.Core.Path.{refl, sym, ◌∙◌}
use Prim.Native.Nat.{◌-◌}
use Rattle.lint_areas.specs.Areas.{finding}
use Rattle.lint_findings.proofs.Laws as laws
use Rattle.lint_findings.proofs.fresh_findings.Goals as goal

pub loop-k-init : goal.loop-k-init
loop-k-init c = ((λ i. laws.fresh_is _ _ _ _ _), refl)

pub loop-k-preserved : goal.loop-k-preserved
loop-k-preserved c = (
  (λ i. c.loop-k.invariant.0 i ∙ laws.numbers_more _ _ _ _ c.loop-k-test.true
      (laws.with_finding _ c.stale_here-test.ensures c.finding.ensures (c.push_if-out.ensures i))),
  search rules,
)

pub returns : goal.returns
returns c = λ i. sym (c.loop-k.invariant.0 i ∙ laws.numbers_end _ _ _ _ c.loop-k-test.false)
