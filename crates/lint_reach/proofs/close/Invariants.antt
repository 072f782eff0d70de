use mathlib.Core.Path.{◌≡◌}
use Prim.Native.Nat.{◌-◌}
use Rattle.lint_reach.specs.Steps.{steps, step_row_m, step_cell_m, step_pass_m, closed}
use Rattle.lint_reach.proofs.close.Given as goal

abbrev pub invariant-loop-j : goal.invariant-loop-j
invariant-loop-j l = steps (step_cell_m l.k l.i) 32 0 l.initial.reach ≡ steps (step_cell_m l.k l.i) (32 - l.j) l.j l.reach

abbrev pub invariant-loop-i : goal.invariant-loop-i
invariant-loop-i l = step_pass_m l.k l.initial.reach ≡ steps (step_row_m l.k) (32 - l.i) l.i l.reach

abbrev pub invariant-loop-k : goal.invariant-loop-k
invariant-loop-k l = closed l.initial.reach ≡ steps step_pass_m (32 - l.k) l.k l.reach
