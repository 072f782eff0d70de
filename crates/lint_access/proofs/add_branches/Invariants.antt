use mathlib.Core.Path.{◌≡◌}
use Prim.Native.Nat.{◌-◌}
use Rattle.lint_access.specs.Sets.{section_by, along, add_predicates_m}
use Rattle.lint_walk.specs.Raw.{predicates_end}
use Rattle.lint_walk.specs.Walks.{list_end}
use Rattle.lint_access.proofs.add_branches.Given as goal

abbrev pub invariant-loop : goal.invariant-loop
invariant-loop l =
    along (add_predicates_m l.s (section_by l.entities l.many)) (λ q. list_end l.s (predicates_end l.s q)) l.count l.initial.p l.initial.out
    ≡ along (add_predicates_m l.s (section_by l.entities l.many)) (λ q. list_end l.s (predicates_end l.s q)) (l.count - l.counter) l.p l.out
