use mathlib.Core.Path.{◌≡◌}
use Prim.Native.Nat.{◌-◌, ◌≤◌}
use Rattle.model_sections.specs.Sections.{seconds_bad}
use Rattle.model_sections.proofs.seconds_bad.Given as goal

abbrev pub invariant-loop-j : goal.invariant-loop-j
invariant-loop-j l = (seconds_bad l.horizon l.events l.s l.count 0 0 ≡ seconds_bad l.horizon l.events l.s (l.end - l.j) l.j l.last) × (l.j ≤ l.end)
