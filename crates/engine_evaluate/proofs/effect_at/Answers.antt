use borrow.Author.Rules.{rules}
use borrow.Author.Tests.{ne_eqb}
use Rattle.engine_evaluate.specs.Actions.{effect_m}
use Rattle.engine_evaluate.proofs.effect_at.Goals as goal

pub returns-in-0 : goal.returns-in-0
unfolding effect_m
returns-in-0 c = rw (c.in-0.is, ← c.two_at.ensures.0, ← c.two_at-in-0.ensures.0)

pub returns-in-1 : goal.returns-in-1
unfolding effect_m
returns-in-1 c = rw (c.in-1.is, ← c.two_at-in-1.ensures.0)

pub returns-in-2 : goal.returns-in-2
unfolding effect_m
returns-in-2 c = rw (c.in-2.is, ← c.four_at.ensures)

pub returns-in-3 : goal.returns-in-3
unfolding effect_m
returns-in-3 c = rw c.in-3.is

pub returns-in-4 : goal.returns-in-4
unfolding effect_m
returns-in-4 c = rw c.in-4.is

pub returns-in-5 : goal.returns-in-5
unfolding effect_m
returns-in-5 c = rw c.in-5.is

pub returns-in_default : goal.returns-in_default
unfolding effect_m
returns-in_default c =
    rw (
      ne_eqb c.args.kind 0 (search rules),
      ne_eqb c.args.kind 1 (search rules),
      ne_eqb c.args.kind 2 (search rules),
      ne_eqb c.args.kind 3 (search rules),
      ne_eqb c.args.kind 4 (search rules),
      ne_eqb c.args.kind 5 (search rules),
      ← c.two_at-in_default.ensures.0,
    )
