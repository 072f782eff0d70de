use mathlib.Core.Path.{◌≡◌}
use Rattle.lint_reach.specs.Sets.{collect}
use Rattle.lint_reach.specs.Cycles.{component_m, both_m}
use Prim.Native.Nat.{◌-◌, ◌≤◌}
use Rattle.lint_reach.proofs.component.Given as goal

abbrev pub invariant-loop-j : goal.invariant-loop-j
invariant-loop-j l = (component_m l.reach l.n l.i ≡ collect (both_m l.reach l.i) (l.n - l.j) l.j l.set) × (l.j ≤ l.n)
