use Rattle.engine_evaluate.specs.Evaluate.{both_m}
use Rattle.engine_evaluate.proofs.both.Goals as goal

pub returns-in-Yes : goal.returns-in-Yes
unfolding both_m
returns-in-Yes c = rw c.in-Yes.is

pub returns-in-No : goal.returns-in-No
unfolding both_m
returns-in-No c = rw c.in-No.is

pub returns-in-Yes-b : goal.returns-in-Yes-b
unfolding both_m
returns-in-Yes-b c = rw (c.in-Unknown.is, c.in-Yes-b.is)

pub returns-in-No-b : goal.returns-in-No-b
unfolding both_m
returns-in-No-b c = rw (c.in-Unknown.is, c.in-No-b.is)

pub returns-in-Unknown-b : goal.returns-in-Unknown-b
unfolding both_m
returns-in-Unknown-b c = rw (c.in-Unknown.is, c.in-Unknown-b.is)
