use Rattle.checker_result.proofs.Laws as laws
use Rattle.checker_result.proofs.with_lists.Goals as goal

pub returns : goal.returns
returns c = laws.with_lists_is _ c.with_reasons-simulation.ensures
