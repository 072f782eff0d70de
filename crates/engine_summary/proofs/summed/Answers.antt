use Rattle.engine_summary.proofs.Laws as laws
use Rattle.engine_summary.proofs.summed.Goals as goal

pub returns : goal.returns
returns c = laws.summed_so _ _ _ _ c.first_values-v.ensures
