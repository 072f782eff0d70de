use borrow.Author.Rules.{rules}
use mathlib.Core.Path.{◌≡◌}
use Prim.Native.Nat.{◌-◌}
use lib.ListN.{length}
use Rattle.lint_areas.specs.Areas.{board, pushes}
use Rattle.lint_findings.specs.Entries.{items_numbers_m}
use Rattle.lint_conditions.specs.Context.{section_of, names_by}
use Rattle.lint_collect.specs.Collect.{rule_at, rules_items}
use Rattle.lint_collect.proofs.rules_entries.Given as goal

abbrev pub invariant-loop-i : goal.invariant-loop-i
invariant-loop-i l =
    (pushes (rules_items l.s (names_by l.entities l.invariants l.given) (section_of l.rules l.given.rules))
    (board l.initial.findings l.initial.interactions l.initial.out) ≡ pushes (items_numbers_m
    (rule_at l.s (names_by l.entities l.invariants l.given) (section_of l.rules l.given.rules)) (l.count - l.i) l.i)
    (board l.findings l.interactions l.out)) × ((length l.findings ≡ length l.initial.findings)
    × (length l.interactions ≡ length l.initial.interactions))
