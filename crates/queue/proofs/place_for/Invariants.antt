use mathlib.Core.Path.{◌≡◌}
use mathlib.Core.List.{List}
use Prim.Native.Nat.{◌-◌, ◌≤◌}
use lib.ListN.{length}
use Rattle.queue.specs.declared.Item.{Item}
use Rattle.queue.specs.Order.{in_order}
use Rattle.queue.specs.Queue.{second_of, laid}
use Rattle.queue.proofs.Order as order
use Rattle.queue.proofs.place_for.Given as goal

abbrev pub invariant-loop-low : goal.invariant-loop-low
invariant-loop-low s =
    (s.low ≤ s.high)
    × ((s.high ≤ s.n)
    × ((l : List Item) (x : Item) → length l ≡ s.n → x.second ≡ s.second → s.a ≡ laid s.first (length s.a) l →
    order.Passed second_of x (in_order second_of l) s.low × order.Ahead second_of x (in_order second_of l) s.high))

abbrev pub decreases-loop-low : goal.decreases-loop-low
decreases-loop-low l = l.high - l.low
