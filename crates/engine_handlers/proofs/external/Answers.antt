use Rattle.engine_handlers.specs.Handlers.{external_m}
use Rattle.engine_handlers.proofs.external.Goals as goal

pub returns : goal.returns
unfolding external_m
returns c = c.update.ensures
