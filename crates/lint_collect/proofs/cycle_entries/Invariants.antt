use borrow.Author.Rules.{rules}
use mathlib.Core.Path.{◌≡◌}
use mathlib.Core.List.{[], List, ◌∷◌}
use Prim.Native.Nat.{ℕ, ◌-◌}
use lib.ListN.{length, get_or}
use Rattle.lint_areas.specs.Areas.{board, pushes, finding}
use Rattle.lint_findings.specs.Entries.{items_numbers_m}
use Rattle.lint_conditions.specs.Context.{section_of}
use Rattle.lint_collect.specs.Collect.{cycle_m, cycles_items}
use Rattle.lint_collect.proofs.cycle_entries.Given as goal

abbrev pub invariant-loop-i : goal.invariant-loop-i
invariant-loop-i l =
    ((k : List ℕ) → pushes (cycles_items l.s (section_of l.entities l.given.entities) (section_of l.rules l.given.rules) l.found)
    (board l.initial.findings k l.initial.out) ≡ pushes (items_numbers_m
    (λ k. finding (cycle_m l.s (section_of l.entities l.given.entities) (section_of l.rules l.given.rules)
    (get_or l.found.sets k 0)) ∷ []) (l.count - l.i) l.i) (board l.findings k l.out)) × (length l.findings ≡ length l.initial.findings)
