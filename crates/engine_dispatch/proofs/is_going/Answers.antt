use Rattle.engine_dispatch.proofs.Laws as laws
use Rattle.engine_dispatch.proofs.is_going.Goals as goal

pub returns-then-not-run : goal.returns-then-not-run
returns-then-not-run c = laws.going_free _ _ c.if-not-run.true c.is_none.ensures

pub returns-else-not-run : goal.returns-else-not-run
returns-else-not-run c = laws.going_queued _ c.if-not-run.false
