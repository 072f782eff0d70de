use Rattle.search_answer.proofs.Laws as laws
use Rattle.search_answer.proofs.status_of.Goals as goal

pub returns-then-found : goal.returns-then-found
returns-then-found c = laws.status_found _ c.if-found.true

pub returns-then-reasons-eq0 : goal.returns-then-reasons-eq0
returns-then-reasons-eq0 c = laws.status_none c.if-found.false c.if-reasons-eq0.true

pub returns : goal.returns
returns c = laws.status_left c.if-found.false c.if-reasons-eq0.false
