use Rattle.engine_table.proofs.Laws as laws
use Rattle.engine_table.proofs.actions_at.Goals as goal

pub returns : goal.returns
returns c =
    laws.actions_are _ _ _ c.conditions_at-conditions.ensures.0 c.pieces_at-w.ensures
    c.end_of.ensures
