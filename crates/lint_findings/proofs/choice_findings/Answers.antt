use native.Mathlib.Nat.{sub-zero, sub-add-eq}
use native.Mathlib.Omega.{arith}
use borrow.Author.Rules.{rules}
use mathlib.Core.Path.{refl, sym, ap, ◌∙◌}
use Prim.Native.Nat.{◌-◌}
use Rattle.lint_findings.proofs.Laws as laws
use Rattle.lint_walk.specs.Raw.{predicates_end}
use Rattle.lint_walk.specs.Walks.{list_end}
use Rattle.lint_findings.proofs.choice_findings.Goals as goal

pub loop-init : goal.loop-init
loop-init c =
    rw sub-zero (((λ i. refl), refl))

pub loop-preserved : goal.loop-preserved
loop-preserved c =
    rw sub-add-eq ((
      (λ i. c.loop.invariant.0 i ∙ laws.parts_more _ _ _ _ _ (omega arith)
          (laws.with_finding _ c.contradictory.ensures refl (c.push_if-out.ensures i))
          (c.list_end-p.ensures ∙ ap (list_end _) c.predicates_end.ensures)),
      search rules,
    ))

pub returns : goal.returns
returns c =
    λ i. sym (laws.branch_is _ _ _ _ c.at_action-words.ensures c.past-start.ensures c.place_at-count.ensures
    c.past-p.ensures ∙ c.loop.invariant.0 i ∙ laws.parts_end _ _ _ _ _ (omega arith))
