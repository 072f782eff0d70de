use mathlib.Core.Path.{◌≡◌}
use Prim.Native.Nat.{◌+◌, ◌-◌}
use Rattle.model_check.specs.Checks.{declaration, times_m, ◌⨾◌}
use Rattle.model_actions.specs.Actions.{actions_m, action_m, choice_m, branch_m}
use Rattle.model_actions.proofs.+actions_check_choice_check.Given as goal

abbrev pub decreases-actions_check : goal.decreases-actions_check
decreases-actions_check l = l.left + l.left

abbrev pub decreases-choice_check : goal.decreases-choice_check
decreases-choice_check l = l.left + l.left + 1

abbrev pub invariant-actions_check-loop : goal.invariant-actions_check-loop
invariant-actions_check-loop l =
    actions_m (declaration l.d l.entities) l.left l.s l.at l.n ≡ times_m (l.count - l.counter)
    (action_m (declaration l.d l.entities) (actions_m (declaration l.d l.entities) (l.left - 1))) l.s l.p l.m

abbrev pub invariant-choice_check-loop : goal.invariant-choice_check-loop
invariant-choice_check-loop l =
    choice_m (declaration l.d l.entities) (actions_m (declaration l.d l.entities) l.left) l.s l.at l.n
    ≡ (times_m (l.count - l.counter) (branch_m (declaration l.d l.entities) (actions_m (declaration l.d l.entities) l.left))
    ⨾ actions_m (declaration l.d l.entities) l.left) l.s l.p l.m
