use Rattle.engine_notes.proofs.Laws as laws
use Rattle.engine_notes.proofs.id_note.Goals as goal

pub returns : goal.returns
returns c = laws.id_is _ _ _ _ _ c.text_position.ensures c.text_position-2.ensures
