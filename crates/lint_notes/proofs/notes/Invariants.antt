use borrow.Author.Rules.{rules}
use mathlib.Core.Path.{◌≡◌}
use mathlib.Core.List.{List}
use Prim.Native.Nat.{ℕ, ◌-◌}
use lib.ListN.{length}
use Rattle.lint_areas.specs.Areas.{Board, board}
use Rattle.lint_notes.specs.Notes.{AllNotes}
use Rattle.lint_notes.proofs.notes.Given as goal

abbrev pub invariant-loop-i : goal.invariant-loop-i
invariant-loop-i l =
    ((k : List ℕ) (e : Board) → AllNotes l.s l.rules (l.count - l.i) l.i (board l.findings k l.out) e
    → AllNotes l.s l.rules l.rules.count 0 (board l.initial.findings k l.initial.out) e) × (length l.findings ≡ length l.initial.findings)
