use Prim.Native.Nat.{◌-◌, ◌≤◌, ◌<◌}
use lib.ListN.{length, get_or}
use Rattle.texts.specs.Texts.{decimal}
use mathlib.Core.Path.{◌≡◌}
use Rattle.reasons.proofs.digit.Given as goal

abbrev pub invariant-loop : goal.invariant-loop
invariant-loop l =
    (get_or (decimal l.n) (length (decimal l.n) - 1 - l.left) 0 ≡ get_or (decimal l.x) (length (decimal l.x) - 1 - (l.left - l.counter)) 0)
    × ((l.left - l.counter) < length (decimal l.x)) × (l.x ≤ l.n)
