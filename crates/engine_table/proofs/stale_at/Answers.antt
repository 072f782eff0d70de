use Rattle.engine_table.proofs.Laws as laws
use Rattle.engine_table.proofs.stale_at.Goals as goal

pub returns : goal.returns
returns c = laws.stale_is _ _ c.two_at-many.ensures.0 c.four_at.ensures
