use Rattle.engine_fields.proofs.Laws as laws
use Rattle.engine_fields.proofs.note_reason.Goals as goal

pub returns : goal.returns
returns c = laws.note_is _ _ _ c.text_position.ensures
