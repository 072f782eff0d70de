use mathlib.Core.Path.{◌≡◌}
use Prim.Native.Nat.{◌-◌}
use Rattle.cone_close.specs.Rounds.{first_m}
use Rattle.cone_close.proofs.first.Given as goal

abbrev pub invariant-loop-i : goal.invariant-loop-i
invariant-loop-i l = first_m l.writes l.c l.count 0 ≡ first_m l.writes l.c (l.count - l.i) l.i
