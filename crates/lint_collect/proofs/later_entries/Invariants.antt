use borrow.Author.Rules.{rules}
use mathlib.Core.Path.{◌≡◌}
use mathlib.Core.List.{List}
use Prim.Native.Nat.{ℕ, ◌-◌}
use lib.ListN.{length}
use Rattle.lint_areas.specs.Areas.{board, pushes}
use Rattle.lint_walk.specs.Walks.{walk_by}
use Rattle.lint_findings.specs.Entries.{items_numbers_m}
use Rattle.lint_conditions.specs.Context.{section_of, names_by}
use Rattle.lint_collect.specs.Collect.{pair_at}
use Rattle.lint_collect.proofs.later_entries.Given as goal

abbrev pub invariant-loop-j : goal.invariant-loop-j
invariant-loop-j l =
    ((k : List ℕ) →
    pushes (items_numbers_m (pair_at l.s (names_by l.entities l.invariants l.given) (section_of l.rules l.given.rules) l.i (walk_by l.list l.m))
    (l.count - l.from) l.from) (board l.initial.findings k l.initial.out) ≡ pushes
    (items_numbers_m (pair_at l.s (names_by l.entities l.invariants l.given) (section_of l.rules l.given.rules) l.i (walk_by l.list l.m))
    (l.count - l.j) l.j) (board l.findings k l.out)) × (length l.findings ≡ length l.initial.findings)
