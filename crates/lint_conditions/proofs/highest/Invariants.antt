use Rattle.model_walk.specs.Walk.{Walked}
use mathlib.Core.Path.{◌≡◌}
use Prim.Native.Nat.{◌-◌}
use Rattle.lint_conditions.specs.Conditions.{highest_from, highest_m}
use Rattle.lint_conditions.proofs.highest.Given as goal

abbrev pub invariant-loop-k : goal.invariant-loop-k
invariant-loop-k l =
    (z : Walked) →
    highest_m l.s (record { count = l.count; starts = l.entities; end = z }) l.set
    ≡ highest_from l.s (record { count = l.count; starts = l.entities; end = z }) l.set (l.count - l.k) l.k l.best
