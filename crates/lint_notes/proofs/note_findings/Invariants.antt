use mathlib.Core.Path.{◌≡◌}
use mathlib.Core.List.{[], List, ◌∷◌}
use Prim.Native.Nat.{ℕ, ◌-◌}
use lib.ListN.{length}
use Rattle.lint_areas.specs.Areas.{board, pushes, finding}
use Rattle.lint_findings.specs.Entries.{items_numbers_m}
use Rattle.lint_notes.specs.Notes.{note_m, note_items}
use Rattle.lint_notes.proofs.note_findings.Given as goal

abbrev pub invariant-loop-j : goal.invariant-loop-j
invariant-loop-j l =
    ((k : List ℕ) → pushes (note_items l.set l.line l.column l.reasons l.count) (board l.initial.findings k l.initial.out)
    ≡ pushes (items_numbers_m (λ j. finding (note_m l.set l.line l.column l.reasons j) ∷ []) (l.count - l.j) l.j) (board l.findings k l.out))
    × (length l.findings ≡ length l.initial.findings)
