use mathlib.Core.Path.{sym, ◌∙◌}
use Rattle.engine_notes.proofs.Laws as notes
use Rattle.engine_unsupported.proofs.Laws as laws
use Rattle.engine_unsupported.proofs.simple_note.Goals as goal

pub returns-then-kind-eq3 : goal.returns-then-kind-eq3
returns-then-kind-eq3 c =
    record {
      is = c.predicate_note.ensures.is ∙ sym (laws.simple_3 _ _ _ _ c.if-kind-eq3.true);
      clean =
          c.predicate_note.ensures.clean;
    }

pub returns-then-kind-eq5 : goal.returns-then-kind-eq5
returns-then-kind-eq5 c =
    record {
      is = c.wait_note.ensures.is ∙ sym (laws.simple_5 _ _ _ _ c.if-kind-eq5.true);
      clean =
          c.wait_note.ensures.clean;
    }

pub returns-then-kind-eq6 : goal.returns-then-kind-eq6
returns-then-kind-eq6 c =
    record {
      is = c.unknown_note.ensures.is ∙ sym (laws.simple_6 _ _ _ _ c.if-kind-eq6.true);
      clean =
          c.unknown_note.ensures.clean;
    }

pub returns-then-kind-eq1 : goal.returns-then-kind-eq1
returns-then-kind-eq1 c =
    record {
      is = notes.skip_is _ _ _ _ c.skip-q.ensures ∙ sym (laws.simple_1 _ _ _ _ c.if-kind-eq1.true);
      clean = λ t k. k;
    }

pub returns : goal.returns
returns c =
    record {
      is = notes.skip_is _ _ _ _ c.skip-q-2.ensures
          ∙ sym (laws.simple_else _ _ _ _ c.if-kind-eq3.false c.if-kind-eq5.false c.if-kind-eq6.false
          c.if-kind-eq1.false);
      clean = λ t k. k;
    }
