use mathlib.Core.Path.{sym, ◌∙◌}
use Rattle.engine_notes.proofs.Laws as laws
use Rattle.engine_notes.proofs.trigger_note.Goals as goal

pub returns : goal.returns
returns c =
    record {
      is = c.note_at.ensures.is ∙ laws.skip_then _ _ _ _ _ c.skip-p.ensures
          ∙ sym (laws.trigger_is _ _ _ _);
      clean = c.note_at.ensures.clean;
    }
