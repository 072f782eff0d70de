use Prim.Native.Nat.{◌-◌}
use Rattle.replay.proofs.print_models.Given as goal

abbrev pub invariant-loop-k : goal.invariant-loop-k
invariant-loop-k l = Unit {0}
