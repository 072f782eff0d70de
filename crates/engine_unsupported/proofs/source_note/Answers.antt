use Rattle.engine_unsupported.proofs.Laws as laws
use Rattle.engine_unsupported.proofs.source_note.Goals as goal

pub returns : goal.returns
returns c = laws.source_is _ _ _ _ _ c.text_position.ensures
