use mathlib.Core.Path.{◌≡◌}
use Prim.Native.Nat.{◌-◌, ◌≤◌}
use Rattle.model_parts.specs.Parts.{section_m, fill, part_m}
use Rattle.model_parts.proofs.section_into.Given as goal

abbrev pub invariant-loop-i : goal.invariant-loop-i
invariant-loop-i l = (section_m (part_m l.texts l.part) l.s l.at l.notes ≡ fill (l.count - l.i) l.i l.count (part_m l.texts l.part) l.starts l.s l.p l.n) × (l.i ≤ l.count)
