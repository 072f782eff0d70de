use Rattle.model_walk.specs.Walk.{Walked}
use mathlib.Core.Path.{◌≡◌}
use Prim.Native.Nat.{◌-◌}
use Rattle.lint_collect.specs.Collect.{cycle_writes_from, cycle_writes_m}
use Rattle.lint_collect.proofs.cycle_writes.Given as goal

abbrev pub invariant-loop-i : goal.invariant-loop-i
invariant-loop-i l =
    (z y : Walked) →
    cycle_writes_m l.s (record { count = l.many; starts = l.entities; end = z }) (record { count = l.count; starts = l.rules; end = y })
    l.set ≡ cycle_writes_from l.s (record { count = l.many; starts = l.entities; end = z })
    (record { count = l.count; starts = l.rules; end = y }) l.set (l.count - l.i) l.i l.writes
