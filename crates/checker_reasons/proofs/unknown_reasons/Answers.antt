use borrow.Author.Tests.{eq-eqb, ne_eqb}
use Rattle.checker_reasons.specs.Reasons.{unknown_m}
use Rattle.checker_reasons.proofs.unknown_reasons.Goals as goal

pub returns-then-kind-eq0 : goal.returns-then-kind-eq0
unfolding unknown_m
returns-then-kind-eq0 c =
    rw (
      ← c.capped-p.ensures,
      ← c.byte_at-kind.ensures.0,
      eq-eqb _ _ c.if-kind-eq0.true,
      ← c.about.ensures,
    ) c.told_if.ensures

pub returns-then-kind-eq1 : goal.returns-then-kind-eq1
unfolding unknown_m
returns-then-kind-eq1 c =
    rw (
      ← c.capped-p.ensures,
      ← c.byte_at-kind.ensures.0,
      ne_eqb _ _ c.if-kind-eq0.false,
      eq-eqb _ _ c.if-kind-eq1.true,
      ← c.about-then-kind-eq1.ensures,
    ) c.told_if-then-kind-eq1.ensures

pub returns-then-kind-eq2 : goal.returns-then-kind-eq2
unfolding unknown_m
returns-then-kind-eq2 c =
    rw (
      ← c.capped-p.ensures,
      ← c.byte_at-kind.ensures.0,
      ne_eqb _ _ c.if-kind-eq0.false,
      ne_eqb _ _ c.if-kind-eq1.false,
      eq-eqb _ _ c.if-kind-eq2.true,
    )

pub returns : goal.returns
unfolding unknown_m
returns c =
    rw (
      ← c.capped-p.ensures,
      ← c.byte_at-kind.ensures.0,
      ne_eqb _ _ c.if-kind-eq0.false,
      ne_eqb _ _ c.if-kind-eq1.false,
      ne_eqb _ _ c.if-kind-eq2.false,
      ← c.about-late.ensures,
      ← c.about-2.ensures,
    )
    c.temporal.ensures
