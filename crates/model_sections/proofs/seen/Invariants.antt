use mathlib.Core.Path.{◌≡◌}
use Prim.Native.Nat.{◌≤◌}
use Rattle.model_sections.specs.Sections.{seen}
use Rattle.model_sections.proofs.seen.Given as goal

abbrev pub invariant-loop-i : goal.invariant-loop-i
invariant-loop-i l = (seen l.part l.starts l.s l.j l.place ≡ seen l.part l.starts l.s l.i l.place) × (l.i ≤ l.j)

abbrev pub decreases-loop-i : goal.decreases-loop-i
decreases-loop-i l = l.i
