use mathlib.Core.Path.{◌≡◌}
use mathlib.Core.List.{List}
use Prim.Native.Nat.{ℕ, ◌-◌}
use lib.ListN.{length, get_or}
use Rattle.lint_walk.specs.Walks.{walk_by}
use Rattle.lint_areas.specs.Areas.{board, pushes}
use Rattle.lint_conditions.specs.Context.{names_by}
use Rattle.lint_findings.specs.Entries.{items_numbers_m}
use Rattle.lint_pairs.specs.Pairs.{oppose_items, row_items}
use Rattle.lint_pairs.proofs.oppose_row.Given as goal

abbrev pub invariant-loop-k : goal.invariant-loop-k
invariant-loop-k l =
    ((i : List ℕ) → pushes (row_items l.s (names_by l.entities l.invariants l.given) l.set (walk_by l.list l.count) l.at)
    (board l.initial.findings i l.initial.out) ≡ pushes (items_numbers_m
    (λ k. oppose_items l.s (names_by l.entities l.invariants l.given) l.set l.at (get_or l.list k 0)) (l.count - l.k) l.k) (board l.findings i l.out))
    × (length l.findings ≡ length l.initial.findings)
