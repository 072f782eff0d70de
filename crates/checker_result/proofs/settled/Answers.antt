use Rattle.checker_result.proofs.Laws as laws
use Rattle.checker_result.proofs.settled.Goals as goal

pub returns-then-s-ne0 : goal.returns-then-s-ne0
returns-then-s-ne0 c = laws.settled_full c.if-s-ne0.true c.refused_judgement.ensures

pub returns : goal.returns
returns c = laws.settled_done c.if-s-ne0.false
