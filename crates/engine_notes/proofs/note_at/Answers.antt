use mathlib.Core.Path.{sym, ◌∙◌}
use Rattle.engine_notes.proofs.Laws as laws
use Rattle.engine_notes.proofs.note_at.Goals as goal

pub returns-in_default : goal.returns-in_default
returns-in_default c =
    record {
      is =
          sym (laws.note_is _ _ _ _ ∙ laws.by_broken _ _ _ _ _ c.u16_at.ensures
          c.in_default.is);
      clean = λ t k. k;
    }

pub returns : goal.returns
returns c =
    record {
      is = sym (laws.note_is _ _ _ _ ∙ laws.by_is _ _ _ _ _ c.u16_at.ensures c.in-Some.is
          ∙ laws.add_put _ _ _ _ _ c.add_note-k.ensures.is);
      clean = c.add_note-k.ensures.clean;
    }
