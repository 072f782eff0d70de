use borrow.Author.Rules.{rules}
use mathlib.Core.Path.{refl, sym, ◌∙◌}
use Prim.Native.Nat.{◌-◌}
use Rattle.lint_findings.proofs.Laws as laws
use Rattle.lint_findings.proofs.branch_findings.Goals as goal
use Rattle.lint_findings.proofs.branch_findings.Goals.{then-kind_at-eq4, else-kind_at-eq4}

pub loop-k-init : goal.loop-k-init
loop-k-init c = ((λ i. laws.branches_is _ _ _ _), refl)

pub loop-k-preserved : goal.loop-k-preserved
loop-k-preserved c =
    elim c.if-kind_at-eq4.branch [
      | then-kind_at-eq4 w ↦ rw (w.out-is, w.findings-is) ((
        (λ i. c.loop-k.invariant.0 i ∙ laws.numbers_more _ _ _ _ c.loop-k-test.true
            (laws.at_choice _ _ _ _ c.kind_at.ensures _ w.if-kind_at-eq4.true
            (w.choice_findings-out.ensures i))),
        search rules,
      ))
      | else-kind_at-eq4 w ↦ rw (w.out-is, w.findings-is) ((
        (λ i. c.loop-k.invariant.0 i ∙ laws.numbers_more _ _ _ _ c.loop-k-test.true
            (laws.at_other _ _ _ _ c.kind_at.ensures _ w.if-kind_at-eq4.false)),
        search rules,
      ))
    ]

pub returns : goal.returns
returns c = λ i. sym (c.loop-k.invariant.0 i ∙ laws.numbers_end _ _ _ _ c.loop-k-test.false)
