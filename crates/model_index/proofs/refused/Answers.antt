use Rattle.model_index.proofs.Laws as laws
use Rattle.model_index.proofs.refused.Goals as goal

pub returns : goal.returns
returns c = laws.refused_with _ c.no_section-x.ensures
