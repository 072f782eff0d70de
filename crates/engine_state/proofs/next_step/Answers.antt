use Rattle.engine_state.specs.Changes.{next_step_m}
use Rattle.engine_state.proofs.next_step.Goals as goal

pub returns : goal.returns
unfolding next_step_m
returns c = c.add.ensures
