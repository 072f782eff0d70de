use Rattle.engine_notes.proofs.Laws as laws
use borrow.Author.Rules.{rules}
use Rattle.engine_notes.proofs.add_note.Goals as goal

pub returns-then-note-eq-NO_PLACE : goal.returns-then-note-eq-NO_PLACE
returns-then-note-eq-NO_PLACE c = record { is = laws.add_none _ _ _ _ c.if-note-eq-NO_PLACE.true; clean = λ t k. k }

pub put-requires : goal.put-requires
put-requires c = (search rules, laws.note_readable _ _ c.note_of-r.ensures)

pub returns : goal.returns
returns c =
    record {
      is = laws.add_some _ _ _ _ c.if-note-eq-NO_PLACE.false c.note_of-r.ensures c.put.ensures.is;
      clean = c.put.ensures.clean;
    }
