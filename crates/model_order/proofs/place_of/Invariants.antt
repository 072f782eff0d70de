use mathlib.Core.Path.{◌≡◌}
use Prim.Native.Nat.{◌+◌, ◌-◌, ◌*◌, ◌≤◌}
use Rattle.model_order.specs.Order.{place_from}
use Rattle.model_order.proofs.place_of.Given as goal

abbrev pub invariant-loop-place : goal.invariant-loop-place
invariant-loop-place l =
    (place_from l.count 0 l.word l.s 6 ≡ place_from (l.count - l.place) l.place l.word l.s l.p)
    × ((l.p ≤ 6 + 256 * l.place) × (l.place ≤ l.count))
