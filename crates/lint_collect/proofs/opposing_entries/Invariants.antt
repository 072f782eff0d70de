use borrow.Author.Rules.{rules}
use mathlib.Core.Path.{◌≡◌}
use mathlib.Core.List.{List}
use Prim.Native.Nat.{ℕ, ◌-◌}
use lib.ListN.{length}
use Rattle.lint_areas.specs.Areas.{board, pushes}
use Rattle.lint_findings.specs.Entries.{items_numbers_m}
use Rattle.lint_conditions.specs.Context.{section_of, names_by}
use Rattle.lint_collect.specs.Collect.{later_items, opposing_items}
use Rattle.lint_collect.proofs.opposing_entries.Given as goal

abbrev pub invariant-loop-i : goal.invariant-loop-i
invariant-loop-i l =
    ((k : List ℕ) → pushes (opposing_items l.s (names_by l.entities l.invariants l.given) (section_of l.rules l.given.rules))
    (board l.initial.findings k l.initial.out) ≡ pushes (items_numbers_m
    (later_items l.s (names_by l.entities l.invariants l.given) (section_of l.rules l.given.rules)) (l.count - l.i) l.i)
    (board l.findings k l.out)) × (length l.findings ≡ length l.initial.findings)
