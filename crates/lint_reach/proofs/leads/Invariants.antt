use mathlib.Core.Path.{◌≡◌}
use Prim.Native.Nat.{◌-◌, ◌≤◌}
use Rattle.lint_reach.specs.Steps.{leads_m}
use Rattle.lint_reach.proofs.leads.Given as goal

abbrev pub invariant-loop-j : goal.invariant-loop-j
invariant-loop-j l = (l.some ≡ leads_m l.row l.j) × (l.j ≤ 32)
