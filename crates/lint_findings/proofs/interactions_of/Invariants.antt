use borrow.Author.Rules.{rules}
use mathlib.Core.Path.{◌≡◌}
use mathlib.Core.List.{[], List, ◌∷◌}
use Prim.Native.Nat.{ℕ, ◌-◌}
use lib.ListN.{length, get_or}
use Rattle.lint_areas.specs.Areas.{board, pushes, only_if, interaction}
use Rattle.lint_findings.specs.Entries.{items_numbers_m}
use Rattle.lint_conditions.specs.Conditions.{leads_m}
use Rattle.lint_findings.proofs.interactions_of.Given as goal

abbrev pub invariant-loop-k : goal.invariant-loop-k
invariant-loop-k l =
    ((f : List ℕ) →
    pushes (items_numbers_m (λ k. only_if (leads_m l.s l.star l.x l.v (get_or l.rules k 0)) (interaction (l.from ∷ k ∷ l.e ∷ []))) (l.count - 0)
    0) (board f l.initial.interactions l.initial.out) ≡ pushes (items_numbers_m
    (λ k. only_if (leads_m l.s l.star l.x l.v (get_or l.rules k 0)) (interaction (l.from ∷ k ∷ l.e ∷ []))) (l.count - l.k) l.k)
    (board f l.interactions l.out)) × (length l.interactions ≡ length l.initial.interactions)
