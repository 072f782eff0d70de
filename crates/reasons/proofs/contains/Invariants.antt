use Prim.Native.Nat.{◌-◌}
use lib.ListN.{drop}
use Rattle.texts.specs.Texts.{mem_t}
use Rattle.reasons.specs.Reasons.{render}
use Rattle.reasons.specs.Lists.{listed}
use mathlib.Core.Path.{◌≡◌}
use Rattle.reasons.proofs.contains.Given as goal

abbrev pub invariant-loop-i : goal.invariant-loop-i
invariant-loop-i l = mem_t (render l.f l.r) (listed l.f l.n l.a) ≡ mem_t (render l.f l.r) (drop l.i (listed l.f l.n l.a))
