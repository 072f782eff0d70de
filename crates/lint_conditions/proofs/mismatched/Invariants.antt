use mathlib.Core.Path.{◌≡◌}
use Prim.Native.Nat.{◌-◌}
use Rattle.lint_conditions.specs.Conditions.{all_m, mismatch_m, mismatched_m}
use Rattle.lint_walk.specs.Raw.{past}
use Rattle.lint_conditions.proofs.mismatched.Given as goal

abbrev pub invariant-loop : goal.invariant-loop
invariant-loop l = mismatched_m l.s l.at ≡ all_m (mismatch_m l.s l.conditions) (λ q. past l.s q 16) (l.count - l.counter) l.p
