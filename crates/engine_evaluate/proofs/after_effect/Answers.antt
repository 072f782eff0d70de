use borrow.Author.Tests.{eq-eqb, ne_eqb}
use Rattle.engine_evaluate.specs.Actions.{after_m}
use Rattle.engine_evaluate.proofs.after_effect.Goals as goal

pub returns-then-kind-eq1 : goal.returns-then-kind-eq1
unfolding after_m
returns-then-kind-eq1 c = rw (eq-eqb _ _ c.if-kind-eq1.true) c.after.ensures

pub returns-then-kind-eq3 : goal.returns-then-kind-eq3
unfolding after_m
returns-then-kind-eq3 c =
    rw (ne_eqb _ _ c.if-kind-eq1.false, eq-eqb _ _ c.if-kind-eq3.true, ← c.predicate_size.ensures)
    c.after-then-kind-eq3.ensures

pub returns-then-kind-eq4 : goal.returns-then-kind-eq4
unfolding after_m
returns-then-kind-eq4 c =
    rw (
      ne_eqb _ _ c.if-kind-eq1.false,
      ne_eqb _ _ c.if-kind-eq3.false,
      eq-eqb _ _ c.if-kind-eq4.true,
      ← c.choice_at-w.ensures,
    ) c.end_of.ensures

pub returns-then-kind-eq5 : goal.returns-then-kind-eq5
unfolding after_m
returns-then-kind-eq5 c =
    rw (
      ne_eqb _ _ c.if-kind-eq1.false,
      ne_eqb _ _ c.if-kind-eq3.false,
      ne_eqb _ _ c.if-kind-eq4.false,
      eq-eqb _ _ c.if-kind-eq5.true,
    ) c.after-then-kind-eq5.ensures

pub returns-then-kind-eq6 : goal.returns-then-kind-eq6
unfolding after_m
returns-then-kind-eq6 c =
    rw (
      ne_eqb _ _ c.if-kind-eq1.false,
      ne_eqb _ _ c.if-kind-eq3.false,
      ne_eqb _ _ c.if-kind-eq4.false,
      ne_eqb _ _ c.if-kind-eq5.false,
      eq-eqb _ _ c.if-kind-eq6.true,
    ) c.after-then-kind-eq6.ensures

pub returns : goal.returns
unfolding after_m
returns c =
    rw (
      ne_eqb _ _ c.if-kind-eq1.false,
      ne_eqb _ _ c.if-kind-eq3.false,
      ne_eqb _ _ c.if-kind-eq4.false,
      ne_eqb _ _ c.if-kind-eq5.false,
      ne_eqb _ _ c.if-kind-eq6.false,
    ) c.after-2.ensures
