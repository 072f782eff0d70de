use Prim.Native.Nat.{◌-◌}
use mathlib.Core.Path.{◌≡◌}
use Rattle.model_check.specs.Checks.{declaration, predicates_m, times_m, predicate_m}
use Rattle.model_check.proofs.predicates_check.Given as goal

abbrev pub invariant-loop : goal.invariant-loop
invariant-loop l = predicates_m (declaration l.d l.entities) l.banned l.s l.at l.n ≡ times_m (l.count - l.counter) (predicate_m (declaration l.d l.entities) l.banned) l.s l.p l.m
