use native.Mathlib.Nat.{sub-zero, sub-add-eq}
use native.Mathlib.Omega.{arith}
use borrow.Author.Rules.{rules}
use mathlib.Core.Path.{refl, sym, ◌∙◌}
use Rattle.engine_notes.proofs.Laws as notes
use Rattle.engine_unsupported.proofs.Laws as laws
use Rattle.engine_unsupported.proofs.+action_notes_actions_notes_choice_notes.Goals as goal

pub action_notes-returns-then-kind-eq4 : goal.action_notes-returns-then-kind-eq4
action_notes-returns-then-kind-eq4 t c =
    record {
      is = c.choice_notes.ensures.is
          ∙ sym (laws.action_is _ _ _ _ _ c.head_at-h.ensures ∙ laws.effect_choice _ _ _ _ _ c.if-kind-eq4.true);
      clean =
          c.choice_notes.ensures.clean;
    }

pub action_notes-returns : goal.action_notes-returns
action_notes-returns t c =
    record {
      is = c.simple_note.ensures.is
          ∙ sym (laws.action_is _ _ _ _ _ c.head_at-h.ensures ∙ laws.effect_simple _ _ _ _ _ c.if-kind-eq4.false);
      clean =
          c.simple_note.ensures.clean;
    }

pub actions_notes-returns-then-left-eq0 : goal.actions_notes-returns-then-left-eq0
actions_notes-returns-then-left-eq0 t c = record { is = sym (laws.actions_none _ _ _ _ c.if-left-eq0.true); clean = λ t k. k }

pub actions_notes-returns-in_default : goal.actions_notes-returns-in_default
actions_notes-returns-in_default t c =
    record {
      is = sym (laws.actions_more _ _ _ _ c.if-left-eq0.false
          ∙ notes.by_broken _ _ _ _ _ c.u16_at.ensures c.in_default.is);
      clean = λ t k. k;
    }

pub actions_notes-loop-init : goal.actions_notes-loop-init
actions_notes-loop-init t c = (
  (refl, λ t k. k),
  rw sub-zero (laws.actions_more _ _ _ _ c.if-left-eq0.false
      ∙ notes.by_is _ _ _ _ _ c.u16_at.ensures c.in-Some.is),
)

pub actions_notes-loop-preserved : goal.actions_notes-loop-preserved
actions_notes-loop-preserved t c = (
  (search rules, λ t k. c.action_notes-d.ensures.clean t (c.loop.invariant.0.1 t k)),
  rw sub-add-eq (c.loop.invariant.1
      ∙ notes.times_more _ _ _ _ _ (omega arith)
      ∙ notes.to _ _ _ _ _ _ _ c.action_notes-d.ensures.is),
)

pub actions_notes-returns : goal.actions_notes-returns
actions_notes-returns t c =
    record {
      is = sym (c.loop.invariant.1 ∙ notes.times_none _ _ _ _ _ (omega arith));
      clean =
          c.loop.invariant.0.1;
    }

pub choice_notes-returns-in_default : goal.choice_notes-returns-in_default
choice_notes-returns-in_default t c =
    record {
      is = sym (notes.by_broken _ _ _ _ _ c.u16_at.ensures c.in_default.is);
      clean = λ t k. k;
    }

pub choice_notes-loop-init : goal.choice_notes-loop-init
choice_notes-loop-init t c = ((refl, λ t k. k), rw sub-zero (notes.by_is _ _ _ _ _ c.u16_at.ensures c.in-Some.is))

pub choice_notes-loop-preserved : goal.choice_notes-loop-preserved
choice_notes-loop-preserved t c = (
  (
    search rules,
    λ t k. c.actions_notes-e.ensures.clean t
        (c.part_notes-d.ensures.clean t (c.loop.invariant.0.1 t k)),
  ),
  rw sub-add-eq (c.loop.invariant.1
      ∙ laws.times_then _ _ _ _ _ _ (omega arith) ∙ laws.assoc _ _ _ _ _ _
      ∙ notes.to _ _ _ _ _ _ _ c.part_notes-d.ensures.is
      ∙ notes.to _ _ _ _ _ _ _ c.actions_notes-e.ensures.is),
)

pub choice_notes-returns : goal.choice_notes-returns
choice_notes-returns t c =
    record {
      is = c.actions_notes.ensures.is
          ∙ sym (c.loop.invariant.1 ∙ laws.none_then _ _ _ _ _ _ (omega arith));
      clean = λ t k. c.actions_notes.ensures.clean t (c.loop.invariant.0.1 t k);
    }
