use Prim.Native.Nat.{◌-◌}
use mathlib.Core.Path.{◌≡◌}
use Rattle.model_sections.specs.Sections.{any_bad}
use Rattle.model_sections.proofs.any_bad.Given as goal

abbrev pub invariant-loop : goal.invariant-loop
invariant-loop l = any_bad l.count l.s l.at ≡ any_bad (l.count - l.counter) l.s l.p
