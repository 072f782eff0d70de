use Prim.Native.Nat.{◌-◌, ◌≤◌}
use Rattle.showcone.proofs.stray.Given as goal

abbrev pub invariant-loop-j : goal.invariant-loop-j
invariant-loop-j l = l.j ≤ 64
