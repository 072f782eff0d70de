use mathlib.Core.Path.{◌≡◌}
use Prim.Native.Nat.{◌-◌, ◌≤◌}
use Rattle.model_check.specs.Checks.{declaration}
use Rattle.model_sections.specs.Sections.{parts_m}
use Rattle.model_sections.proofs.section_check.Given as goal

abbrev pub invariant-loop-j : goal.invariant-loop-j
invariant-loop-j l =
    (parts_m (declaration l.d l.entities) l.part l.starts l.count 0 l.s l.n ≡ parts_m (declaration l.d l.entities) l.part l.starts (l.end - l.j) l.j l.s l.m)
    × (l.j ≤ l.end)
