use mathlib.Core.Path.{◌≡◌}
use Prim.Native.Nat.{◌-◌}
use Rattle.cone_close.specs.Rounds.{rounds_m, closed_m}
use Rattle.cone_close.proofs.close.Given as goal

abbrev pub invariant-loop : goal.invariant-loop
invariant-loop l = closed_m l.writes l.needs l.count l.start ≡ rounds_m l.writes l.needs l.count (l.count - l.counter) l.c
