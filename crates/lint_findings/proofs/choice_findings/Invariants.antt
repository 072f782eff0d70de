use mathlib.Core.Path.{◌≡◌}
use mathlib.Core.List.{List}
use Prim.Native.Nat.{ℕ, ◌-◌}
use lib.ListN.{length}
use Rattle.lint_areas.specs.Areas.{board, pushes, only_if, finding}
use Rattle.lint_findings.specs.Entries.{items_parts_m}
use Rattle.lint_conditions.specs.Conditions.{contradictory_m}
use Rattle.lint_walk.specs.Raw.{predicates_end}
use Rattle.lint_walk.specs.Walks.{list_end}
use Rattle.lint_findings.proofs.choice_findings.Given as goal

abbrev pub invariant-loop : goal.invariant-loop
invariant-loop l =
    ((i : List ℕ) →
    pushes (items_parts_m (λ q. only_if (contradictory_m l.s q) (finding l.words)) (λ q. list_end l.s (predicates_end l.s q)) l.count l.initial.p)
    (board l.initial.findings i l.initial.out) ≡ pushes (items_parts_m (λ q. only_if (contradictory_m l.s q) (finding l.words))
    (λ q. list_end l.s (predicates_end l.s q)) (l.count - l.counter) l.p) (board l.findings i l.out)) × (length l.findings ≡ length l.initial.findings)
