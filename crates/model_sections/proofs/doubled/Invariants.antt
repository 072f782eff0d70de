use Prim.Native.Nat.{◌-◌}
use mathlib.Core.Path.{◌≡◌}
use Rattle.model_sections.specs.Sections.{doubled}
use Rattle.model_sections.proofs.doubled.Given as goal

abbrev pub invariant-loop-i : goal.invariant-loop-i
invariant-loop-i l = doubled l.count l.s l.at ≡ doubled (l.count - l.i) l.s l.p
