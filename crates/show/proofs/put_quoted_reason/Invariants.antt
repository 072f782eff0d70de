use Prim.Native.Nat.{◌-◌, ◌≤◌}
use lib.ListN.{length, take}
use Rattle.texts.specs.Lists.{flat}
use Rattle.reasons.specs.Reasons.{render}
use Rattle.show.specs.Lines.{escape}
use Rattle.show.specs.Writing.{Written}
use Rattle.show.proofs.put_quoted_reason.Given as goal

abbrev pub invariant-loop-i : goal.invariant-loop-i
invariant-loop-i l =
    Written (flat escape (take l.i (render l.f l.r))) l.initial.out l.initial.m l.out l.m
    × (l.i ≤ length (render l.f l.r))
