use mathlib.Core.Path.{sym, ◌∙◌}
use borrow.Author.Tests.{eq-eqb, ne_eqb}
use Rattle.engine_evaluate.specs.Evaluate.{matches_m}
use Rattle.engine_evaluate.proofs.matches.Goals as goal

pub returns-then-two_at-ne-NO_PLACE : goal.returns-then-two_at-ne-NO_PLACE
unfolding matches_m
returns-then-two_at-ne-NO_PLACE c = rw (← c.two_at.ensures.0, ne_eqb _ _ c.if-two_at-ne-NO_PLACE.true)

pub returns-then-two_at-m : goal.returns-then-two_at-m
unfolding matches_m
returns-then-two_at-m c =
    rw (
      ← c.two_at.ensures.0,
      eq-eqb _ _ c.if-two_at-ne-NO_PLACE.false,
      ← c.two_at-2.ensures.0,
      ne_eqb _ _ c.if-two_at-m.true,
    )

pub returns-then-m : goal.returns-then-m
unfolding matches_m
returns-then-m c =
    rw (
      ← c.two_at.ensures.0,
      eq-eqb _ _ c.if-two_at-ne-NO_PLACE.false,
      ← c.two_at-2.ensures.0,
      eq-eqb _ _ c.if-two_at-m.false,
      eq-eqb _ _ c.if-m.true,
    )

pub returns-then-admits : goal.returns-then-admits
unfolding matches_m
returns-then-admits c =
    rw (
      ← c.two_at.ensures.0,
      eq-eqb _ _ c.if-two_at-ne-NO_PLACE.false,
      ← c.two_at-2.ensures.0,
      eq-eqb _ _ c.if-two_at-m.false,
      ne_eqb _ _ c.if-m.false,
      ← c.two_at-3.ensures.0,
      sym c.admits.ensures ∙ c.if-admits.true,
      ← c.two_at-then-admits.ensures.0,
    ) c.admits-then-admits.ensures

pub returns : goal.returns
unfolding matches_m
returns c =
    rw (
      ← c.two_at.ensures.0,
      eq-eqb _ _ c.if-two_at-ne-NO_PLACE.false,
      ← c.two_at-2.ensures.0,
      eq-eqb _ _ c.if-two_at-m.false,
      ne_eqb _ _ c.if-m.false,
      ← c.two_at-3.ensures.0,
      sym c.admits.ensures
          ∙ c.if-admits.false,
    )
