use Prim.Native.Nat.{◌-◌, ◌≤◌}
use lib.ListN.{drop}
use Rattle.texts.specs.Texts.{order_t}
use Rattle.reasons.specs.Reasons.{render}
use mathlib.Core.Path.{◌≡◌}
use Rattle.reasons.proofs.compare.Given as goal

abbrev pub invariant-loop-i : goal.invariant-loop-i
invariant-loop-i l = (order_t (render l.f l.a) (render l.f l.b) ≡ order_t (drop l.i (render l.f l.a)) (drop l.i (render l.f l.b))) × (l.i ≤ l.n)
