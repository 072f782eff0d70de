use mathlib.Core.Path.{◌≡◌}
use Prim.Native.Nat.{◌+◌, ◌-◌}
use Rattle.lint_walk.specs.Raw.{repeat}
use Rattle.lint_walk.specs.Walks.{walk_of, action_m, branch_m, choice_m, list_m}
use Rattle.lint_walk.proofs.+choice_walk_list_walk.Given as goal

abbrev pub decreases-choice_walk : goal.decreases-choice_walk
decreases-choice_walk l = l.left + l.left + 1

abbrev pub decreases-list_walk : goal.decreases-list_walk
decreases-list_walk l = l.left + l.left

abbrev pub invariant-choice_walk-loop : goal.invariant-choice_walk-loop
invariant-choice_walk-loop l = repeat l.count (branch_m l.s (list_m l.left l.s)) (walk_of l.initial.list l.initial.v) ≡ repeat (l.count - l.counter) (branch_m l.s (list_m l.left l.s)) (walk_of l.list l.v)

abbrev pub invariant-list_walk-loop : goal.invariant-list_walk-loop
invariant-list_walk-loop l =
    repeat l.count (action_m l.s (choice_m l.s (list_m (l.left - 1) l.s))) (walk_of l.initial.list l.initial.v)
    ≡ repeat (l.count - l.counter) (action_m l.s (choice_m l.s (list_m (l.left - 1) l.s))) (walk_of l.list l.v)
