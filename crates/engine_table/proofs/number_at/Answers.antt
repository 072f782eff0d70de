use Rattle.engine_table.proofs.Laws as laws
use Rattle.engine_table.proofs.number_at.Goals as goal

pub returns : goal.returns
returns c = laws.number_is _ _ _ c.capped-p.ensures c.four_at.ensures
