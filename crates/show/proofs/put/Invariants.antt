use Prim.Native.Nat.{◌-◌, ◌≤◌}
use lib.ListN.{length, take}
use Rattle.show.specs.Writing.{Written}
use Rattle.show.proofs.put.Given as goal

abbrev pub invariant-loop-x : goal.invariant-loop-x
invariant-loop-x l = Written (take l.x-index l.t) l.initial.out l.n l.out l.m × (l.x-index ≤ length l.t)
