use Rattle.engine_table.proofs.Laws as laws
use Rattle.engine_table.proofs.start_word.Goals as goal

pub returns : goal.returns
returns c =
    laws.start_is _ _ _ _
    c.number_at.ensures c.end_of.ensures
