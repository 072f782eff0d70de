use Rattle.engine_state.proofs.Laws as laws
use Rattle.engine_state.proofs.more_than.Goals as goal

pub returns-then-x-lt4294967295 : goal.returns-then-x-lt4294967295
returns-then-x-lt4294967295 c = laws.more_yes _ c.if-x-lt4294967295.true

pub returns : goal.returns
returns c = laws.more_no _ c.if-x-lt4294967295.false
