use borrow.Author.Tests.{eq-eqb, ne_eqb}
use Rattle.engine_actions.specs.Actions.{toggled_m}
use Rattle.engine_actions.proofs.toggled.Goals as goal

pub returns-then-v-x : goal.returns-then-v-x
unfolding toggled_m
returns-then-v-x c = rw (eq-eqb _ _ c.if-v-x.true)

pub returns : goal.returns
unfolding toggled_m
returns c = rw (ne_eqb _ _ c.if-v-x.false)
