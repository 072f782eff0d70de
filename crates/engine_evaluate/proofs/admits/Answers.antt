use borrow.Author.Tests.{eq-eqb, ne_eqb}
use Rattle.engine_evaluate.specs.Evaluate.{admits_m}
use Rattle.engine_evaluate.proofs.admits.Goals as goal

pub returns-then-p-eq-NO_PLACE : goal.returns-then-p-eq-NO_PLACE
unfolding admits_m
returns-then-p-eq-NO_PLACE c = rw (eq-eqb _ _ c.if-p-eq-NO_PLACE.true)

pub returns : goal.returns
unfolding admits_m
returns c = rw (ne_eqb _ _ c.if-p-eq-NO_PLACE.false)
