use borrow.Author.Rules.{rules}
use mathlib.Core.Path.{refl, sym, ◌∙◌}
use Prim.Native.Nat.{◌-◌}
use Rattle.lint_conditions.specs.Context.{section_of}
use Rattle.lint_findings.proofs.Laws as laws
use Rattle.lint_findings.proofs.interactions_of.Goals as goal

pub loop-k-init : goal.loop-k-init
loop-k-init c = ((λ f. refl), refl)

pub loop-k-preserved : goal.loop-k-preserved
loop-k-preserved c = (
  (λ f. c.loop-k.invariant.0 f ∙ laws.numbers_more _ _ _ _ c.loop-k-test.true
      (laws.with_interaction _ _ c.leads-test.ensures (c.interact_if-out.ensures f))),
  search rules,
)

pub returns : goal.returns
returns c =
    λ f. sym (laws.interact_is _ _ (section_of _ _) _ _ _ _ _ ∙ c.loop-k.invariant.0 f
    ∙ laws.numbers_end _ _ _ _ c.loop-k-test.false)
