use Rattle.checker_judge.specs.Judging.{unsure_m}
use Rattle.checker_judge.proofs.unsure.Goals as goal

pub returns : goal.returns
unfolding unsure_m
returns c = rw (← c.either.ensures)
