use mathlib.Core.Path.{◌≡◌}
use Prim.Native.Nat.{◌-◌, ◌≤◌}
use lib.ListN.{length, drop}
use lib.ListN.{replicate}
use lib.Seq.{paste}
use Rattle.runs.proofs.places_at.Given as goal

abbrev pub invariant-loop-i : goal.invariant-loop-i
invariant-loop-i l = (l.i ≤ 17) × ((length l.p ≡ 17) × (l.p ≡ paste (replicate 17 0) 0 (drop l.at l.a) l.i))
