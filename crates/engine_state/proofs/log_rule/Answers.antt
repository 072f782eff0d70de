use Rattle.engine_state.specs.Changes.{log_rule_m}
use Rattle.engine_state.proofs.log_rule.Goals as goal

pub returns : goal.returns
unfolding log_rule_m
returns c = c.log.ensures
