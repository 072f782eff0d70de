use borrow.Author.Tests.{eq-eqb, ne_eqb}
use Rattle.checker_judge.specs.Judging.{goal_at}
use Rattle.checker_judge.specs.Names.{names_m}
use Rattle.checker_judge.proofs.name_all.Goals as goal

pub returns-then-kind-eq0 : goal.returns-then-kind-eq0
unfolding names_m
returns-then-kind-eq0 c =
    rw (← c.byte_at-kind.ensures.0, eq-eqb _ _ c.if-kind-eq0.true, ← c.after.ensures)
    c.name_list.ensures

pub returns-then-kind-eq1 : goal.returns-then-kind-eq1
unfolding names_m
returns-then-kind-eq1 c =
    rw (
      ← c.byte_at-kind.ensures.0,
      ne_eqb _ _ c.if-kind-eq0.false,
      eq-eqb _ _ c.if-kind-eq1.true,
      ← c.after-then-kind-eq1.ensures,
      ← c.two_at.ensures.0,
      ← c.name.ensures,
    ) c.name_list-then-kind-eq1.ensures

pub returns-then-kind-eq2 : goal.returns-then-kind-eq2
unfolding names_m
returns-then-kind-eq2 c =
    rw (
      ← c.byte_at-kind.ensures.0,
      ne_eqb _ _ c.if-kind-eq0.false,
      ne_eqb _ _ c.if-kind-eq1.false,
      eq-eqb _ _ c.if-kind-eq2.true,
      ← c.two_at-then-kind-eq2.ensures.0,
    ) c.name-then-kind-eq2.ensures

pub returns : goal.returns
unfolding names_m goal_at
returns c =
    rw (
      ← c.byte_at-kind.ensures.0,
      ne_eqb _ _ c.if-kind-eq0.false,
      ne_eqb _ _ c.if-kind-eq1.false,
      ne_eqb _ _ c.if-kind-eq2.false,
      ← c.after-p.ensures,
      ← c.after_predicate.ensures,
      ← c.name_predicate.ensures,
    ) c.name_predicate-2.ensures
