use mathlib.Core.Path.{◌≡◌}
use Prim.Native.Nat.{◌-◌}
use Rattle.lint_conditions.specs.Conditions.{any_m, clash_m, clashes_m}
use Rattle.lint_walk.specs.Raw.{predicate_end}
use Rattle.lint_conditions.proofs.clashes.Given as goal

abbrev pub invariant-loop : goal.invariant-loop
invariant-loop l = clashes_m l.s l.x l.v l.count l.at ≡ any_m (clash_m l.s l.x l.v) (predicate_end l.s) (l.count - l.counter) l.p
