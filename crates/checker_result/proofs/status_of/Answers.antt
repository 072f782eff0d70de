use Rattle.checker_result.proofs.Laws as laws
use Rattle.checker_result.proofs.status_of.Goals as goal

pub returns-then-t-ne0 : goal.returns-then-t-ne0
returns-then-t-ne0 c = laws.status_unknown _ c.if-t-ne0.true

pub returns-then-t-ne0-2 : goal.returns-then-t-ne0-2
returns-then-t-ne0-2 c = laws.status_violation _ c.if-t-ne0.false c.if-t-ne0-2.true

pub returns-then-t-ne0-3 : goal.returns-then-t-ne0-3
returns-then-t-ne0-3 c = laws.status_incomplete _ c.if-t-ne0.false c.if-t-ne0-2.false c.if-t-ne0-3.true

pub returns : goal.returns
returns c = laws.status_none _ c.if-t-ne0.false c.if-t-ne0-2.false c.if-t-ne0-3.false
