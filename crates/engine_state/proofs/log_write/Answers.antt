use Rattle.engine_state.specs.Changes.{log_write_m}
use Rattle.engine_state.proofs.log_write.Goals as goal

pub returns : goal.returns
unfolding log_write_m
returns c = c.log.ensures
