use Rattle.checker_result.proofs.Laws as laws
use Rattle.checker_result.proofs.refused_judgement.Goals as goal

pub returns : goal.returns
returns c = laws.refused_is _ c.refused_summary-simulation.ensures
