use mathlib.Core.Path.{◌≡◌}
use Prim.Native.Nat.{◌-◌}
use Rattle.lint_conditions.specs.Conditions.{contradictory_from, contradictory_m}
use Rattle.lint_conditions.proofs.contradictory.Given as goal

abbrev pub invariant-loop-i : goal.invariant-loop-i
invariant-loop-i l = contradictory_m l.s l.at ≡ contradictory_from l.s (l.count - l.i) l.p
