use Rattle.engine_actions.specs.Actions.{written_m}
use Rattle.engine_actions.proofs.write.Goals as goal

pub returns : goal.returns
unfolding written_m
returns c = c.update.ensures
