use borrow.Author.Tests.{eq-eqb, ne_eqb, lt-ltb, le-ltb}
use Rattle.engine_evaluate.specs.Actions.{word_m}
use Rattle.engine_evaluate.proofs.last_word.Goals as goal

pub returns-then-d-eq0 : goal.returns-then-d-eq0
unfolding word_m
returns-then-d-eq0 c = rw (eq-eqb _ _ c.if-d-eq0.true)

pub returns-then-d-gt17 : goal.returns-then-d-gt17
unfolding word_m
returns-then-d-gt17 c = rw (ne_eqb _ _ c.if-d-eq0.false, lt-ltb _ _ c.if-d-gt17.true)

pub returns : goal.returns
unfolding word_m
returns c = rw (ne_eqb _ _ c.if-d-eq0.false, le-ltb _ _ c.if-d-gt17.false)
