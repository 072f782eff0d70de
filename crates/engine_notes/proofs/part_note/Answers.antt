use mathlib.Core.Path.{sym, ◌∙◌}
use Rattle.engine_notes.proofs.Laws as laws
use Rattle.engine_notes.proofs.part_note.Goals as goal

pub returns-in-Note : goal.returns-in-Note
returns-in-Note c =
    record {
      is = c.note_at.ensures.is ∙ sym (laws.part_note _ _ _ _ c.in-Note.is);
      clean =
          c.note_at.ensures.clean;
    }

pub returns-in-Trigger : goal.returns-in-Trigger
returns-in-Trigger c =
    record {
      is = c.trigger_note.ensures.is ∙ sym (laws.part_trigger _ _ _ _ c.in-Trigger.is);
      clean = c.trigger_note.ensures.clean;
    }

pub returns-in-Predicate : goal.returns-in-Predicate
returns-in-Predicate c =
    record {
      is = c.predicate_note.ensures.is
          ∙ sym (laws.part_predicate _ _ _ _ c.in-Predicate.is);
      clean =
          c.predicate_note.ensures.clean;
    }
