use Rattle.engine_table.proofs.Laws as laws
use Rattle.engine_table.proofs.source_at.Goals as goal

pub returns : goal.returns
returns c =
    laws.source_is _ _ _ c.actions_at-actions.ensures c.actions_at-w.ensures
    c.end_of.ensures
