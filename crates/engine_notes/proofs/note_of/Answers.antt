use Rattle.engine_notes.proofs.Laws as laws
use Rattle.engine_notes.proofs.note_of.Goals as goal

pub returns-then-id-eq-NO_PLACE : goal.returns-then-id-eq-NO_PLACE
returns-then-id-eq-NO_PLACE c = laws.note_plain _ _ _ c.if-id-eq-NO_PLACE.true c.note_reason.ensures

pub returns : goal.returns
returns c = laws.note_id _ _ _ c.if-id-eq-NO_PLACE.false c.id_note.ensures
