use Prim.Native.Nat.{◌-◌}
use mathlib.Core.Path.{◌≡◌}
use Rattle.model_order.specs.Order.{has, among}
use Rattle.model_order.proofs.has.Given as goal

abbrev pub invariant-loop : goal.invariant-loop
invariant-loop l = has l.word l.s l.at ≡ among (l.count - l.counter) l.word l.s l.p
