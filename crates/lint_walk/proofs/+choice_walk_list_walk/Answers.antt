use native.Mathlib.Nat.{sub-zero, sub-add-eq}
use native.Mathlib.Omega.{arith}
use mathlib.Core.Path.{refl, sym, ap, ◌∙◌}
use Rattle.lint_walk.proofs.Laws as laws
use Prim.Native.Nat.{◌-◌}
use Rattle.lint_walk.specs.Raw.{repeat}
use Rattle.lint_walk.specs.Walks.{choice_m, list_m}
use Rattle.lint_walk.proofs.+choice_walk_list_walk.Goals as goal
use Rattle.lint_walk.proofs.+choice_walk_list_walk.Goals.{list_walk-then-kind_at-eq4, list_walk-else-kind_at-eq4}

pub choice_walk-loop-init : goal.choice_walk-loop-init
choice_walk-loop-init t c = rw sub-zero

pub choice_walk-loop-preserved : goal.choice_walk-loop-preserved
choice_walk-loop-preserved t c =
    rw sub-add-eq (c.loop.invariant ∙ laws.repeat_more _ _ _ (omega arith)
    ∙ ap (repeat _ _) (laws.branch_next _ _ _ c.predicates_end.ensures
    (laws.moved_of _ _ _ c.moved.ensures) c.list_walk-v.ensures))

pub choice_walk-returns : goal.choice_walk-returns
choice_walk-returns t c =
    c.list_walk.ensures ∙ laws.choice_done _ _ c.place_at-count.ensures c.past.ensures
    (laws.moved_of _ _ _ c.moved-v.ensures) _ (c.loop.invariant
    ∙ laws.repeat_none _ _ _ (omega arith))

pub list_walk-returns-then-left-eq0 : goal.list_walk-returns-then-left-eq0
list_walk-returns-then-left-eq0 t c = rw c.if-left-eq0.true (sym (laws.list_none _ _))

pub list_walk-loop-init : goal.list_walk-loop-init
list_walk-loop-init t c = rw sub-zero

pub list_walk-loop-preserved : goal.list_walk-loop-preserved
list_walk-loop-preserved t c =
    elim c.if-kind_at-eq4.branch [
      | list_walk-then-kind_at-eq4 w ↦
          rw (w.v-is, w.list-is, sub-add-eq) (c.loop.invariant ∙ laws.repeat_more _ _ _ (omega arith)
          ∙ ap (repeat _ _) (laws.action_choice _ _ _ (sym c.kind_at.ensures ∙ w.if-kind_at-eq4.true)
          ∙ ap (choice_m _ (list_m _ _)) (sym w.entered-w.ensures) ∙ sym w.choice_walk-v.ensures))
      | list_walk-else-kind_at-eq4 w ↦
          rw (w.v-is, w.list-is, sub-add-eq) (c.loop.invariant ∙ laws.repeat_more _ _ _ (omega arith)
          ∙ ap (repeat _ _) (laws.action_simple _ _ _ (λ e. w.if-kind_at-eq4.false (c.kind_at.ensures ∙ e))
          ∙ sym w.simple_walk-v.ensures))
    ]

pub list_walk-returns : goal.list_walk-returns
list_walk-returns t c =
    laws.list_done _ _ c.place_at-count.ensures c.past.ensures (laws.moved_of _ _ _ c.moved-v.ensures)
    _ c.if-left-eq0.false (c.loop.invariant ∙ laws.repeat_none _ _ _ (omega arith))
