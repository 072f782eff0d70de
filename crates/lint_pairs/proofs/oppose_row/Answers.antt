use borrow.Author.Rules.{rules}
use mathlib.Core.Path.{refl, sym, ◌∙◌}
use Prim.Native.Nat.{◌-◌}
use Rattle.lint_findings.proofs.Laws as items
use Rattle.lint_pairs.proofs.Laws as laws
use Rattle.lint_pairs.proofs.oppose_row.Goals as goal
use Rattle.lint_pairs.proofs.oppose_row.Goals.{then-opposing, else-opposing}

pub returns-then-kind_at-gt1 : goal.returns-then-kind_at-gt1
returns-then-kind_at-gt1 c = λ i. laws.row_none _ _ _ _ _ _ c.kind_at.ensures c.if-kind_at-gt1.true

pub loop-k-init : goal.loop-k-init
loop-k-init c = ((λ i. laws.row_is _ _ _ _ _ _), refl)

pub loop-k-preserved : goal.loop-k-preserved
loop-k-preserved c =
    elim c.if-opposing.branch [
      | then-opposing w ↦ rw (w.out-is, w.findings-is) ((
        (λ i. c.loop-k.invariant.0 i ∙ items.numbers_more _ _ _ _ c.loop-k-test.true
            (laws.oppose_yes _ _ _ _ _ c.kind_at.ensures c.if-kind_at-gt1.false c.past.ensures c.place_at-x.ensures
            c.value-v.ensures _ c.opposing.ensures w.if-opposing.true (w.oppose-out.ensures i))),
        search rules,
      ))
      | else-opposing w ↦ rw (w.out-is, w.findings-is) ((
        (λ i. c.loop-k.invariant.0 i ∙ items.numbers_more _ _ _ _ c.loop-k-test.true
            (laws.oppose_no _ _ _ _ _ c.kind_at.ensures c.if-kind_at-gt1.false c.past.ensures c.place_at-x.ensures
            c.value-v.ensures _ c.opposing.ensures w.if-opposing.false)),
        search rules,
      ))
    ]

pub returns : goal.returns
returns c = λ i. sym (c.loop-k.invariant.0 i ∙ items.numbers_end _ _ _ _ c.loop-k-test.false)
