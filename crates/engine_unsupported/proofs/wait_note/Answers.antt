use mathlib.Core.Path.{sym, ◌∙◌}
use Rattle.engine_notes.proofs.Laws as notes
use Rattle.engine_unsupported.proofs.Laws as laws
use Rattle.engine_unsupported.proofs.wait_note.Goals as goal

pub returns : goal.returns
returns c =
    record {
      is = notes.skip_is _ _ _ _ c.skip-q.ensures
          ∙ sym (laws.wait_is _ _ _ ∙ notes.to _ _ _ _ _ _ _ c.trigger_note-d.ensures.is);
      clean =
          c.trigger_note-d.ensures.clean;
    }
