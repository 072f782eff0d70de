use Rattle.engine_inputs.proofs.Laws as laws
use Rattle.engine_inputs.proofs.initial_at.Goals as goal

pub returns : goal.returns
returns c = laws.initial_is _ _ c.two_at-many.ensures.0 c.two_at.ensures.0
