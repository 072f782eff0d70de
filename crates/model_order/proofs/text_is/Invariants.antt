use mathlib.Core.Path.{◌≡◌}
use Prim.Native.Nat.{◌-◌}
use mathlib.Core.Bool.{◌&&◌}
use lib.ListN.{drop}
use Rattle.texts.specs.Texts.{eq_t}
use Rattle.texts.specs.Places.{text_at}
use Rattle.model_order.specs.Order.{fits}
use Rattle.model_order.proofs.text_is.Given as goal

abbrev pub invariant-loop-i : goal.invariant-loop-i
invariant-loop-i l = (fits l.s l.p && eq_t l.word (text_at l.s l.p)) ≡ eq_t (drop l.i l.word) (drop l.i (text_at l.s l.p))

abbrev pub decreases-loop-i : goal.decreases-loop-i
decreases-loop-i l = l.n - l.i
