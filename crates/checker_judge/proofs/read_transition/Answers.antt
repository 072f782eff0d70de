use Rattle.checker_judge.specs.Judging.{transition_m}
use Rattle.checker_judge.proofs.read_transition.Goals as goal

pub returns : goal.returns
unfolding transition_m
returns c = rw (← c.passes.ensures, ← c.fails_if-failure.ensures)
