use mathlib.Core.Path.{◌≡◌}
use Rattle.model_check.specs.Checks.{first_from}
use Prim.Native.Nat.{◌-◌, ◌≤◌}
use Rattle.model_check.proofs.first_of.Given as goal

abbrev pub invariant-loop-i : goal.invariant-loop-i
invariant-loop-i l =
    (first_from l.starts l.place l.s l.count 0 ≡ first_from l.starts l.place l.s (l.end - l.i) l.i)
    × (l.i ≤ l.end)
