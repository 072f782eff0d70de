use borrow.Author.Rules.{rules}
use mathlib.Core.Path.{◌≡◌}
use Prim.Native.Nat.{◌-◌}
use lib.ListN.{length, get_or}
use Rattle.lint_walk.specs.Walks.{walk_by}
use Rattle.lint_areas.specs.Areas.{board, pushes}
use Rattle.lint_conditions.specs.Context.{section_of, names_by}
use Rattle.lint_findings.specs.Entries.{items_numbers_m, write_items, writes_items}
use Rattle.lint_findings.proofs.writes_findings.Given as goal

abbrev pub invariant-loop-k : goal.invariant-loop-k
invariant-loop-k l =
    (pushes (writes_items l.s (names_by l.entities l.invariants l.given) (section_of l.rules l.given.rules) l.a (walk_by l.list l.count))
    (board l.initial.findings l.initial.interactions l.initial.out) ≡ pushes (items_numbers_m
    (λ k. write_items l.s (names_by l.entities l.invariants l.given) (section_of l.rules l.given.rules) l.a (get_or l.list k 0)) (l.count - l.k) l.k)
    (board l.findings l.interactions l.out)) × ((length l.findings ≡ length l.initial.findings)
    × (length l.interactions ≡ length l.initial.interactions))
