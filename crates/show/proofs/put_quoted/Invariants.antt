use Prim.Native.Nat.{◌-◌, ◌≤◌}
use lib.ListN.{length, take}
use Rattle.texts.specs.Lists.{flat}
use Rattle.show.specs.Lines.{escape}
use Rattle.show.specs.Writing.{Written}
use Rattle.show.proofs.put_quoted.Given as goal

abbrev pub invariant-loop-x : goal.invariant-loop-x
invariant-loop-x l = Written (flat escape (take l.x-index l.t)) l.initial.out l.initial.m l.out l.m × (l.x-index ≤ length l.t)
