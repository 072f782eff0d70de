use Rattle.reduce_result.proofs.Laws as laws
use Rattle.reduce_result.proofs.refused.Goals as goal

pub returns : goal.returns
returns c = laws.refused_is _ c.refused-check.ensures
