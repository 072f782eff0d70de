use Rattle.search_inputs.proofs.Laws as laws
use Rattle.search_inputs.proofs.last_at.Goals as goal

pub returns-then-n-eq0 : goal.returns-then-n-eq0
returns-then-n-eq0 c = laws.last_none _ c.if-n-eq0.true

pub returns : goal.returns
returns c = laws.last_some _ c.if-n-eq0.false
