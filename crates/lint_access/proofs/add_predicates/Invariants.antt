use mathlib.Core.Path.{◌≡◌}
use Prim.Native.Nat.{◌-◌}
use Rattle.lint_access.specs.Sets.{section_by, along, add_predicate_m}
use Rattle.lint_walk.specs.Raw.{predicate_end}
use Rattle.lint_access.proofs.add_predicates.Given as goal

abbrev pub invariant-loop : goal.invariant-loop
invariant-loop l =
    along (add_predicate_m l.s (section_by l.entities l.many)) (predicate_end l.s) l.count l.initial.p l.initial.out
    ≡ along (add_predicate_m l.s (section_by l.entities l.many)) (predicate_end l.s) (l.count - l.counter) l.p l.out
