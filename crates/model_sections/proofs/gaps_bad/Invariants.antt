use mathlib.Core.Path.{◌≡◌}
use Prim.Native.Nat.{◌-◌, ◌≤◌}
use Rattle.model_sections.specs.Sections.{gaps_bad}
use Rattle.model_sections.proofs.gaps_bad.Given as goal

abbrev pub invariant-loop-j : goal.invariant-loop-j
invariant-loop-j l = (gaps_bad l.gaps l.s l.count 0 ≡ gaps_bad l.gaps l.s (l.end - l.j) l.j) × (l.j ≤ l.end)
