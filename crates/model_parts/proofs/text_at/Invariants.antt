use Prim.Native.Nat.{◌-◌}
use mathlib.Core.Path.{◌≡◌}
use Rattle.model_walk.specs.Walk.{times_m}
use Rattle.model_parts.specs.Parts.{text_m, letter_m}
use Rattle.model_parts.proofs.text_at.Given as goal

abbrev pub invariant-loop : goal.invariant-loop
invariant-loop l = text_m l.s l.at l.notes ≡ times_m (l.count - l.counter) letter_m l.s l.p l.notes
