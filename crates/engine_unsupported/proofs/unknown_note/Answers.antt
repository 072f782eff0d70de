use mathlib.Core.Path.{sym, ◌∙◌}
use Rattle.engine_notes.proofs.Laws as notes
use Rattle.engine_unsupported.proofs.Laws as laws
use borrow.Author.Rules.{rules}
use Rattle.engine_unsupported.proofs.unknown_note.Goals as goal

pub returns-in_default : goal.returns-in_default
returns-in_default c =
    record {
      is = sym (laws.unknown_is _ _ _ _ _
          ∙ notes.by_broken _ _ _ _ _ c.u16_at.ensures c.in_default.is);
      clean = λ t k. k;
    }

pub put-k-requires : goal.put-k-requires
put-k-requires c = (search rules, laws.source_readable _ _ _ c.source_note-r.ensures)

pub returns : goal.returns
returns c =
    record {
      is = sym (laws.unknown_is _ _ _ _ _ ∙ notes.by_is _ _ _ _ _ c.u16_at.ensures c.in-Some.is
          ∙ laws.source_put _ _ _ _ _ _ c.source_note-r.ensures c.put-k.ensures.is);
      clean = c.put-k.ensures.clean;
    }
