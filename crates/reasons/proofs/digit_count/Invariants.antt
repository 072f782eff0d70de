use Prim.Native.Nat.{◌+◌, ◌-◌, ◌≤◌}
use lib.ListN.{length}
use Rattle.texts.specs.Texts.{decimal}
use mathlib.Core.Path.{◌≡◌}
use Rattle.reasons.proofs.digit_count.Given as goal

abbrev pub invariant-loop-x : goal.invariant-loop-x
invariant-loop-x l = (length (decimal l.n) + 1 ≡ l.c + length (decimal l.x)) × (l.x ≤ l.n)

abbrev pub decreases-loop-x : goal.decreases-loop-x
decreases-loop-x l = l.x
