use mathlib.Core.Path.{◌≡◌}
use Prim.Native.Nat.{◌-◌}
use lib.ListN.{drop}
use Rattle.texts.specs.Texts.{lt_t}
use Rattle.texts.specs.Places.{text_at}
use Rattle.model_order.specs.Order.{text_before}
use Rattle.model_order.proofs.text_before.Given as goal

abbrev pub invariant-loop-i : goal.invariant-loop-i
invariant-loop-i l = text_before l.s l.a l.b ≡ lt_t (drop l.i (text_at l.s l.a)) (drop l.i (text_at l.s l.b))

abbrev pub decreases-loop-i : goal.decreases-loop-i
decreases-loop-i l = l.n - l.i
