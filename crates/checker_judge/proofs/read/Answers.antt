use borrow.Author.Tests.{eq-eqb, ne_eqb}
use Rattle.checker_judge.specs.Judging.{read_m}
use Rattle.checker_judge.proofs.read.Goals as goal

pub returns-then-kind-eq0 : goal.returns-then-kind-eq0
unfolding read_m
returns-then-kind-eq0 c = rw (← c.byte_at-kind.ensures.0, eq-eqb _ _ c.if-kind-eq0.true) c.read_never.ensures

pub returns-then-kind-eq1 : goal.returns-then-kind-eq1
unfolding read_m
returns-then-kind-eq1 c =
    rw (← c.byte_at-kind.ensures.0, ne_eqb _ _ c.if-kind-eq0.false, eq-eqb _ _ c.if-kind-eq1.true)
    c.read_guard.ensures

pub returns-then-kind-eq2 : goal.returns-then-kind-eq2
unfolding read_m
returns-then-kind-eq2 c =
    rw (
      ← c.byte_at-kind.ensures.0,
      ne_eqb _ _ c.if-kind-eq0.false,
      ne_eqb _ _ c.if-kind-eq1.false,
      eq-eqb _ _ c.if-kind-eq2.true,
    ) c.read_transition.ensures

pub returns : goal.returns
unfolding read_m
returns c =
    rw (
      ← c.byte_at-kind.ensures.0,
      ne_eqb _ _ c.if-kind-eq0.false,
      ne_eqb _ _ c.if-kind-eq1.false,
      ne_eqb _ _ c.if-kind-eq2.false,
      ← c.seen_at.ensures,
    ) c.responded.ensures
