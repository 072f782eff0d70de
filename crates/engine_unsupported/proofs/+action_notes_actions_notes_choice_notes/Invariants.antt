use mathlib.Core.Path.{◌≡◌}
use Prim.Native.Nat.{◌+◌, ◌-◌}
use lib.ListN.{length}
use Rattle.reasons.specs.Readable.{HasText}
use Rattle.reasons.specs.Lists.{listed, Clean}
use Rattle.engine_notes.specs.Listing.{◌⨾◌, times_m}
use Rattle.engine_unsupported.specs.Listing.{action_m, actions_m, choice_m, branch_m}
use Rattle.engine_unsupported.proofs.+action_notes_actions_notes_choice_notes.Given as goal

abbrev pub decreases-action_notes : goal.decreases-action_notes
decreases-action_notes l = l.left + l.left + l.left + 2

abbrev pub decreases-actions_notes : goal.decreases-actions_notes
decreases-actions_notes l = l.left + l.left + l.left

abbrev pub decreases-choice_notes : goal.decreases-choice_notes
decreases-choice_notes l = l.left + l.left + l.left + 1

abbrev pub invariant-actions_notes-loop : goal.invariant-actions_notes-loop
invariant-actions_notes-loop l =
    ((length l.u ≡ length l.initial.u) × (HasText l.f → Clean l.f l.n l.initial.u → Clean l.f l.k l.u))
    × (actions_m l.left l.f l.at (listed l.f l.n l.initial.u) ≡ times_m (l.count - l.counter) (action_m (actions_m (l.left - 1))) l.f l.p (listed l.f l.k l.u))

abbrev pub invariant-choice_notes-loop : goal.invariant-choice_notes-loop
invariant-choice_notes-loop l =
    ((length l.u ≡ length l.initial.u) × (HasText l.f → Clean l.f l.n l.initial.u → Clean l.f l.k l.u))
    × (choice_m (actions_m l.left) l.f l.at (listed l.f l.n l.initial.u) ≡ (times_m (l.count - l.counter) (branch_m (actions_m l.left)) ⨾ actions_m l.left) l.f l.p
    (listed l.f l.k l.u))
