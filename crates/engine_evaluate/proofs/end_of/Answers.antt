use Rattle.engine_evaluate.proofs.Laws as laws
use Rattle.engine_evaluate.proofs.end_of.Goals as goal

pub returns-in-Some : goal.returns-in-Some
returns-in-Some c = laws.end_to _ _ _ _ _ c.in-Some.is c.capped.ensures

pub returns-in-None : goal.returns-in-None
returns-in-None c = laws.end_broken _ _ c.in-None.is
