use Prim.Native.Nat.{◌-◌}
use mathlib.Core.Path.{◌≡◌}
use Rattle.model_parts.specs.Parts.{part_m}
use Rattle.model_order.specs.Order.{ascending_m, chain}
use Rattle.model_order.proofs.ascending_at.Given as goal

abbrev pub invariant-loop : goal.invariant-loop
invariant-loop l = ascending_m l.texts l.part l.as_texts l.s l.at ≡ chain (part_m l.texts l.part) (l.count - l.counter) l.as_texts l.last l.s l.p
