use native.Mathlib.Nat.{sub-zero, sub-add-eq}
use native.Mathlib.Omega.{arith}
use Prim.Native.Nat.{◌-◌}
use mathlib.Core.Path.{sym, ◌∙◌}
use borrow.Author.Tests.{eq-eqb, ne_eqb}
use Rattle.model_walk.proofs.Laws as laws
use Rattle.model_walk.proofs.+actions_at_choice_at.Goals as goal
use Rattle.model_walk.proofs.+actions_at_choice_at.Goals.{actions_at-else-kind-eq4, actions_at-then-kind-eq4}

pub actions_at-returns-then-left-eq0 : goal.actions_at-returns-then-left-eq0
actions_at-returns-then-left-eq0 t c = rw c.if-left-eq0.true (sym (laws.actions_none _ _ _ _))

pub actions_at-returns-in_err-count : goal.actions_at-returns-in_err-count
actions_at-returns-in_err-count t c =
    c.from_residual.ensures ∙ sym (laws.actions_more _ _ _ _ _ c.if-left-eq0.false
    ∙ laws.by_broken _ _ _ _ _ c.u16_at.ensures c.in_err-count.was)

pub actions_at-loop-init : goal.actions_at-loop-init
actions_at-loop-init t c =
    rw sub-zero (laws.actions_more _ _ _ _ _ c.if-left-eq0.false ∙ laws.by_is _ _ _ _ _ c.u16_at.ensures c.in_ok-count.was)

pub actions_at-returns-in_err-after : goal.actions_at-returns-in_err-after
actions_at-returns-in_err-after t c =
    c.from_residual-in_err-after.ensures ∙ sym (c.loop.invariant ∙ laws.times_more _ _ _ _ _ (omega arith) ∙ laws.assoc _ _ _ _ _ _
    ∙ laws.broke _ _ _ _ _ c.bytes_at.ensures c.in_err-after.was)

pub actions_at-returns-in_err-kind : goal.actions_at-returns-in_err-kind
actions_at-returns-in_err-kind t c =
    c.from_residual-in_err-kind.ensures ∙ sym (c.loop.invariant ∙ laws.times_more _ _ _ _ _ (omega arith) ∙ laws.assoc _ _ _ _ _ _
    ∙ laws.to _ _ _ _ _ c.bytes_at.ensures c.in_ok-after.was ∙ laws.by_then _ _ _ _ _ _
    ∙ laws.by_broken _ _ _ _ _ c.u8_at.ensures c.in_err-kind.was)

pub actions_at-returns-in_err-q : goal.actions_at-returns-in_err-q
actions_at-returns-in_err-q t c =
    c.from_residual-in_err-q.ensures ∙ sym (c.loop.invariant ∙ laws.times_more _ _ _ _ _ (omega arith) ∙ laws.assoc _ _ _ _ _ _
    ∙ laws.to _ _ _ _ _ c.bytes_at.ensures c.in_ok-after.was ∙ laws.by_then _ _ _ _ _ _
    ∙ laws.by_is _ _ _ _ _ c.u8_at.ensures c.in_ok-kind.was
    ∙ laws.broke _ _ _ _ _ ((elim c.if-kind-eq4.branch [ actions_at-then-kind-eq4 w ↦ w.r-is ∙ w.choice_at-r.ensures ∙ sym (laws.yes_walk _ _ _ _ _ (eq-eqb _ _ w.if-kind-eq4.true)) | actions_at-else-kind-eq4 w ↦ w.r-is ∙ w.simple_at-r.ensures ∙ sym (laws.no_walk _ _ _ _ _ (ne_eqb _ _ w.if-kind-eq4.false)) ]))
    c.in_err-q.was)

pub actions_at-loop-preserved : goal.actions_at-loop-preserved
actions_at-loop-preserved t c =
    rw sub-add-eq (c.loop.invariant ∙ laws.times_more _ _ _ _ _ (omega arith) ∙ laws.assoc _ _ _ _ _ _
    ∙ laws.to _ _ _ _ _ c.bytes_at.ensures c.in_ok-after.was ∙ laws.by_then _ _ _ _ _ _
    ∙ laws.by_is _ _ _ _ _ c.u8_at.ensures c.in_ok-kind.was
    ∙ laws.to _ _ _ _ _ ((elim c.if-kind-eq4.branch [ actions_at-then-kind-eq4 w ↦ w.r-is ∙ w.choice_at-r.ensures ∙ sym (laws.yes_walk _ _ _ _ _ (eq-eqb _ _ w.if-kind-eq4.true)) | actions_at-else-kind-eq4 w ↦ w.r-is ∙ w.simple_at-r.ensures ∙ sym (laws.no_walk _ _ _ _ _ (ne_eqb _ _ w.if-kind-eq4.false)) ]))
    c.in_ok-q.was)

pub actions_at-returns : goal.actions_at-returns
actions_at-returns t c = sym (c.loop.invariant ∙ laws.times_none _ _ _ _ _ (omega arith))

pub choice_at-returns-in_err-count : goal.choice_at-returns-in_err-count
choice_at-returns-in_err-count t c = c.from_residual.ensures ∙ sym (laws.by_broken _ _ _ _ _ c.u16_at.ensures c.in_err-count.was)

pub choice_at-loop-init : goal.choice_at-loop-init
choice_at-loop-init t c =
    rw sub-zero (laws.by_is _ _ _ _ _ c.u16_at.ensures c.in_ok-count.was)

pub choice_at-returns-in_err-next : goal.choice_at-returns-in_err-next
choice_at-returns-in_err-next t c =
    c.from_residual-in_err-next.ensures ∙ sym (c.loop.invariant ∙ laws.times_then _ _ _ _ _ _ (omega arith) ∙ laws.assoc _ _ _ _ _ _
    ∙ laws.broke _ _ _ _ _ c.pieces_at.ensures c.in_err-next.was)

pub choice_at-returns-in_err-q : goal.choice_at-returns-in_err-q
choice_at-returns-in_err-q t c =
    c.from_residual-in_err-q.ensures ∙ sym (c.loop.invariant ∙ laws.times_then _ _ _ _ _ _ (omega arith) ∙ laws.assoc _ _ _ _ _ _
    ∙ laws.to _ _ _ _ _ c.pieces_at.ensures c.in_ok-next.was
    ∙ laws.broke _ _ _ _ _ c.actions_at.ensures c.in_err-q.was)

pub choice_at-loop-preserved : goal.choice_at-loop-preserved
choice_at-loop-preserved t c =
    rw sub-add-eq (c.loop.invariant ∙ laws.times_then _ _ _ _ _ _ (omega arith) ∙ laws.assoc _ _ _ _ _ _
    ∙ laws.to _ _ _ _ _ c.pieces_at.ensures c.in_ok-next.was
    ∙ laws.to _ _ _ _ _ c.actions_at.ensures c.in_ok-q.was)

pub choice_at-returns : goal.choice_at-returns
choice_at-returns t c =
    c.actions_at-2.ensures ∙ sym (c.loop.invariant
    ∙ laws.none_then _ _ _ _ _ _ (omega arith))
