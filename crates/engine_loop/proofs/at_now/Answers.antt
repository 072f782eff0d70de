use Rattle.engine_loop.proofs.Laws as laws
use Rattle.engine_loop.proofs.at_now.Goals as goal

pub returns : goal.returns
returns c = laws.timed _ _
