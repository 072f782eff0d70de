use mathlib.Core.Path.{sym, ◌∙◌}
use borrow.Author.Tests.{eq-eqb, ne_eqb}
use Rattle.model_walk.proofs.Laws.{size_some}
use Rattle.engine_notes.proofs.Laws as laws
use Rattle.engine_notes.proofs.predicate_note.Goals as goal

pub returns-in_default : goal.returns-in_default
returns-in_default c =
    record {
      is =
          sym (laws.predicate_is _ _ _ _
          ∙ laws.by_broken _ _ _ _ _ c.u8_at.ensures c.in_default.is);
      clean = λ t k. k;
    }

pub returns-then-kind-eq1 : goal.returns-then-kind-eq1
returns-then-kind-eq1 c =
    record {
      is =
          c.note_at.ensures.is
          ∙ sym (laws.predicate_is _ _ _ _
          ∙ laws.by_is _ _ _ _ _ c.u8_at.ensures c.in-Some.is
          ∙ laws.yes_list _ _ _ _ _ (eq-eqb _ _ c.if-kind-eq1.true));
      clean = c.note_at.ensures.clean;
    }

pub overflow_sub-predicate_size : goal.overflow_sub-predicate_size
overflow_sub-predicate_size c = size_some _ _ c.predicate_size.ensures

pub returns : goal.returns
returns c =
    record {
      is =
          laws.skip_size _ _ _ _ c.skip-q.ensures c.predicate_size.ensures
          ∙ sym (laws.predicate_is _ _ _ _
          ∙ laws.by_is _ _ _ _ _ c.u8_at.ensures
          c.in-Some.is
          ∙ laws.no_list _ _ _ _ _ (ne_eqb _ _ c.if-kind-eq1.false));
      clean = λ t k. k;
    }
