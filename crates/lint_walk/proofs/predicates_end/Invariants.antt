use Prim.Native.Nat.{◌-◌}
use mathlib.Core.Path.{◌≡◌}
use Rattle.lint_walk.specs.Raw.{repeat, predicate_end, predicates_end}
use Rattle.lint_walk.proofs.predicates_end.Given as goal

abbrev pub invariant-loop : goal.invariant-loop
invariant-loop l = predicates_end l.s l.at ≡ repeat (l.count - l.counter) (predicate_end l.s) l.p
