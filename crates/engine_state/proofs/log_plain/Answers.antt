use Rattle.engine_state.specs.Changes.{log_plain_m}
use Rattle.engine_state.proofs.log_plain.Goals as goal

pub returns : goal.returns
unfolding log_plain_m
returns c = c.log.ensures
