use mathlib.Core.Path.{◌≡◌}
use Prim.Native.Nat.{◌-◌, ◌≤◌}
use lib.ListN.{length, drop}
use Rattle.arguments.specs.Number.{with_digits, number_of}
use Rattle.arguments.proofs.number.Given as goal

abbrev pub invariant-loop-x : goal.invariant-loop-x
invariant-loop-x l = (number_of l.most l.t ≡ with_digits l.most l.k (drop l.x-index l.t)) × (l.k ≤ l.most)
