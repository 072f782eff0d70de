use borrow.Author.Tests.{eq-eqb, ne_eqb}
use Rattle.engine_evaluate.specs.Evaluate.{undecided_m}
use Rattle.engine_evaluate.proofs.undecided.Goals as goal

pub returns-then-v-x : goal.returns-then-v-x
unfolding undecided_m
returns-then-v-x c = rw (eq-eqb _ _ c.if-v-x.true)

pub returns : goal.returns
unfolding undecided_m
returns c = rw (ne_eqb _ _ c.if-v-x.false)
