use mathlib.Core.Path.{◌≡◌}
use Prim.Native.Nat.{◌+◌, ◌-◌}
use Rattle.model_walk.specs.Walk.{times_m, actions_m, action_m, choice_m, branch_m, ◌⨾◌}
use Rattle.model_walk.proofs.+actions_at_choice_at.Given as goal

abbrev pub decreases-actions_at : goal.decreases-actions_at
decreases-actions_at l = l.left + l.left

abbrev pub decreases-choice_at : goal.decreases-choice_at
decreases-choice_at l = l.left + l.left + 1

abbrev pub invariant-actions_at-loop : goal.invariant-actions_at-loop
invariant-actions_at-loop l = actions_m l.texts l.left l.s l.at l.notes ≡ times_m (l.count - l.counter) (action_m l.texts (actions_m l.texts (l.left - 1))) l.s l.p l.n

abbrev pub invariant-choice_at-loop : goal.invariant-choice_at-loop
invariant-choice_at-loop l =
    choice_m l.texts (actions_m l.texts l.left) l.s l.at l.notes ≡ (times_m (l.count - l.counter) (branch_m l.texts (actions_m l.texts l.left)) ⨾ actions_m l.texts l.left)
    l.s l.p l.n
