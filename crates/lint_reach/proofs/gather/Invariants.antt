use Rattle.lint_reach.proofs.ComponentLaws.{Gathered}
use Prim.Native.Nat.{◌-◌, ◌≤◌}
use Rattle.lint_reach.proofs.gather.Given as goal

abbrev pub invariant-loop-i : goal.invariant-loop-i
invariant-loop-i l = Gathered l.reach l.n l.i l.found × (l.i ≤ l.n)
