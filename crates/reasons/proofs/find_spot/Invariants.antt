use mathlib.Core.List.{◌++◌}
use Prim.Native.Nat.{◌+◌, ◌-◌, ◌≤◌}
use lib.ListN.{drop, take}
use Rattle.texts.specs.Texts.{insert_t}
use Rattle.reasons.specs.Reasons.{render}
use Rattle.reasons.specs.Lists.{listed}
use mathlib.Core.Path.{◌≡◌}
use Rattle.reasons.proofs.find_spot.Given as goal

abbrev pub invariant-loop-i : goal.invariant-loop-i
invariant-loop-i l = (l.i ≤ l.n) × (insert_t (render l.f l.r) (listed l.f l.n l.a) ≡ take l.i (listed l.f l.n l.a) ++ insert_t (render l.f l.r) (drop l.i (listed l.f l.n l.a)))
