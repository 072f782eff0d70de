use native.Mathlib.Nat.{sub-zero, sub-add-eq}
use native.Mathlib.Omega.{arith}
use Prim.Native.Nat.{◌-◌}
use mathlib.Core.Path.{sym, ◌∙◌}
use borrow.Author.Tests.{eq-eqb, ne_eqb}
use Rattle.model_check.proofs.Laws as checks
use Rattle.model_actions.proofs.Laws as laws
use Rattle.model_actions.proofs.+actions_check_choice_check.Goals as goal
use Rattle.model_actions.proofs.+actions_check_choice_check.Goals.{actions_check-else-kind-eq4, actions_check-then-kind-eq4}

pub actions_check-returns-then-left-eq0 : goal.actions_check-returns-then-left-eq0
actions_check-returns-then-left-eq0 t c = rw c.if-left-eq0.true (sym (laws.actions_none _ _ _ _))

pub actions_check-returns-in_default : goal.actions_check-returns-in_default
actions_check-returns-in_default t c =
    sym (laws.actions_more _ _ _ _ _ c.if-left-eq0.false
    ∙ checks.by_broken _ _ _ _ _ c.u16_at.ensures c.in_default.is)

pub actions_check-loop-init : goal.actions_check-loop-init
actions_check-loop-init t c =
    rw sub-zero (laws.actions_more _ _ _ _ _ c.if-left-eq0.false ∙ checks.by_is _ _ _ _ _ c.u16_at.ensures c.in-Some.is)

pub actions_check-returns-in_default-y : goal.actions_check-returns-in_default-y
actions_check-returns-in_default-y t c =
    sym (c.loop.invariant ∙ checks.times_more _ _ _ _ _ (omega arith) ∙ laws.assoc _ _ _ _ _ _
    ∙ checks.refused _ _ _ _ _ c.head_check-y.ensures c.in_default-y.is)

pub actions_check-returns-in_default-u8_at : goal.actions_check-returns-in_default-u8_at
actions_check-returns-in_default-u8_at t c =
    sym (c.loop.invariant ∙ checks.times_more _ _ _ _ _ (omega arith) ∙ laws.assoc _ _ _ _ _ _
    ∙ checks.to _ _ _ _ _ c.head_check-y.ensures c.in-To.is ∙ laws.by_then _ _ _ _ _ _
    ∙ checks.by_broken _ _ _ _ _ c.u8_at.ensures c.in_default-u8_at.is)

pub actions_check-returns-in_default-r : goal.actions_check-returns-in_default-r
actions_check-returns-in_default-r t c =
    sym (c.loop.invariant ∙ checks.times_more _ _ _ _ _ (omega arith) ∙ laws.assoc _ _ _ _ _ _
    ∙ checks.to _ _ _ _ _ c.head_check-y.ensures c.in-To.is ∙ laws.by_then _ _ _ _ _ _
    ∙ checks.by_is _ _ _ _ _ c.u8_at.ensures c.in-Some-u8_at.is
    ∙ checks.refused _ _ _ _ _
    ((elim c.if-kind-eq4.branch [ actions_check-then-kind-eq4 w ↦ w.r-is ∙ w.choice_check-r.ensures ∙ sym (checks.yes_check _ _ _ _ _ (eq-eqb _ _ w.if-kind-eq4.true)) | actions_check-else-kind-eq4 w ↦ w.r-is ∙ w.simple_check-r.ensures ∙ sym (checks.no_check _ _ _ _ _ (ne_eqb _ _ w.if-kind-eq4.false)) ])) c.in_default-r.is)

pub actions_check-loop-preserved : goal.actions_check-loop-preserved
actions_check-loop-preserved t c =
    rw sub-add-eq (c.loop.invariant ∙ checks.times_more _ _ _ _ _ (omega arith) ∙ laws.assoc _ _ _ _ _ _
    ∙ checks.to _ _ _ _ _ c.head_check-y.ensures c.in-To.is ∙ laws.by_then _ _ _ _ _ _
    ∙ checks.by_is _ _ _ _ _ c.u8_at.ensures c.in-Some-u8_at.is
    ∙ checks.to _ _ _ _ _
    ((elim c.if-kind-eq4.branch [ actions_check-then-kind-eq4 w ↦ w.r-is ∙ w.choice_check-r.ensures ∙ sym (checks.yes_check _ _ _ _ _ (eq-eqb _ _ w.if-kind-eq4.true)) | actions_check-else-kind-eq4 w ↦ w.r-is ∙ w.simple_check-r.ensures ∙ sym (checks.no_check _ _ _ _ _ (ne_eqb _ _ w.if-kind-eq4.false)) ]))
    c.in-To-r.is)

pub actions_check-returns : goal.actions_check-returns
actions_check-returns t c = sym (c.loop.invariant ∙ checks.times_none _ _ _ _ _ (omega arith))

pub choice_check-returns-in_default : goal.choice_check-returns-in_default
choice_check-returns-in_default t c = sym (checks.by_broken _ _ _ _ _ c.u16_at.ensures c.in_default.is)

pub choice_check-loop-init : goal.choice_check-loop-init
choice_check-loop-init t c =
    rw sub-zero (checks.by_is _ _ _ _ _ c.u16_at.ensures c.in-Some.is)

pub choice_check-returns-in_default-y : goal.choice_check-returns-in_default-y
choice_check-returns-in_default-y t c =
    sym (c.loop.invariant ∙ laws.times_then _ _ _ _ _ _ (omega arith) ∙ laws.assoc _ _ _ _ _ _
    ∙ checks.refused _ _ _ _ _ c.predicates_check-y.ensures c.in_default-y.is)

pub choice_check-returns-in_default-z : goal.choice_check-returns-in_default-z
choice_check-returns-in_default-z t c =
    sym (c.loop.invariant ∙ laws.times_then _ _ _ _ _ _ (omega arith) ∙ laws.assoc _ _ _ _ _ _
    ∙ checks.to _ _ _ _ _ c.predicates_check-y.ensures c.in-To.is
    ∙ checks.refused _ _ _ _ _ c.actions_check-z.ensures c.in_default-z.is)

pub choice_check-loop-preserved : goal.choice_check-loop-preserved
choice_check-loop-preserved t c =
    rw sub-add-eq (c.loop.invariant ∙ laws.times_then _ _ _ _ _ _ (omega arith) ∙ laws.assoc _ _ _ _ _ _
    ∙ checks.to _ _ _ _ _ c.predicates_check-y.ensures c.in-To.is
    ∙ checks.to _ _ _ _ _ c.actions_check-z.ensures c.in-To-z.is)

pub choice_check-returns : goal.choice_check-returns
choice_check-returns t c =
    c.actions_check.ensures ∙ sym (c.loop.invariant
    ∙ laws.none_then _ _ _ _ _ _ (omega arith))
