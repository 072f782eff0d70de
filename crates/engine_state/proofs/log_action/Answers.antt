use Rattle.engine_state.specs.Changes.{log_action_m}
use Rattle.engine_state.proofs.log_action.Goals as goal

pub returns : goal.returns
unfolding log_action_m
returns c = c.log.ensures
