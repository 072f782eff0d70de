use Rattle.engine_window.proofs.Laws as laws
use Rattle.engine_window.proofs.second_after.Goals as goal

pub returns : goal.returns
returns c = laws.second_is _ _ _
