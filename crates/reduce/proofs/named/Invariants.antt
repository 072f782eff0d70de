use mathlib.Core.Path.{◌≡◌}
use mathlib.Core.Bool.{false}
use Prim.Native.Nat.{◌-◌, ◌≤◌}
use Rattle.reduce.specs.Promises.{among}
use Rattle.reduce.proofs.named.Given as goal

abbrev pub invariant-loop-k : goal.invariant-loop-k
invariant-loop-k l = (among l.violated l.k l.target ≡ false) × ((l.k ≤ l.n) × (l.n ≤ 32))
