use mathlib.Core.Path.{◌≡◌}
use mathlib.Core.List.{List}
use Prim.Native.Nat.{ℕ, ◌-◌}
use lib.ListN.{length}
use Rattle.lint_walk.specs.Walks.{walk_by}
use Rattle.lint_areas.specs.Areas.{board, pushes}
use Rattle.lint_findings.specs.Entries.{items_numbers_m, branches_at, branches_items}
use Rattle.lint_findings.proofs.branch_findings.Given as goal

abbrev pub invariant-loop-k : goal.invariant-loop-k
invariant-loop-k l =
    ((i : List ℕ) → pushes (branches_items l.s l.a (walk_by l.list l.count)) (board l.initial.findings i l.initial.out)
    ≡ pushes (items_numbers_m (branches_at l.s l.a (walk_by l.list l.count)) (l.count - l.k) l.k) (board l.findings i l.out))
    × (length l.findings ≡ length l.initial.findings)
