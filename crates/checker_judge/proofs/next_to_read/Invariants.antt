use Prim.Native.Nat.{◌-◌}
use Rattle.checker_judge.specs.Names.{AllQuiet}
use Rattle.checker_judge.proofs.next_to_read.Given as goal

abbrev pub invariant-loop-j : goal.invariant-loop-j
invariant-loop-j l = AllQuiet l.named l.a l.n l.k l.j

abbrev pub decreases-loop-j : goal.decreases-loop-j
decreases-loop-j l = l.n - l.j
