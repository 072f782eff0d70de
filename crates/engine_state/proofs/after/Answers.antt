use Rattle.engine_state.proofs.Laws as laws
use Rattle.engine_state.proofs.after.Goals as goal

pub returns-then-b-a : goal.returns-then-b-a
returns-then-b-a c = laws.later_yes _ _ c.if-b-a.true

pub returns : goal.returns
returns c = laws.later_no _ _ c.if-b-a.false
