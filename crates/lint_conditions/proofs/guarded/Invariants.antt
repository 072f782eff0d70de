use mathlib.Core.Path.{◌≡◌}
use Prim.Native.Nat.{◌-◌}
use Rattle.lint_conditions.specs.Conditions.{any_list_m, guard_m}
use Rattle.lint_conditions.proofs.guarded.Given as goal

abbrev pub invariant-loop-k : goal.invariant-loop-k
invariant-loop-k l =
    any_list_m (guard_m l.s l.x l.v) l.invariants l.count 0
    ≡ any_list_m (guard_m l.s l.x l.v) l.invariants (l.count - l.k) l.k
