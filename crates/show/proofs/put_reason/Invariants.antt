use Prim.Native.Nat.{◌-◌, ◌≤◌}
use lib.ListN.{length, take}
use Rattle.reasons.specs.Reasons.{render}
use Rattle.show.specs.Writing.{Written}
use Rattle.show.proofs.put_reason.Given as goal

abbrev pub invariant-loop-i : goal.invariant-loop-i
invariant-loop-i l = Written (take l.i (render l.f l.r)) l.initial.out l.n l.out l.m × (l.i ≤ length (render l.f l.r))
