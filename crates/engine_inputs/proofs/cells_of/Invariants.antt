use mathlib.Core.Path.{◌≡◌}
use Prim.Native.Nat.{ℕ, ◌-◌, ◌≤◌, ◌<◌}
use lib.ListN.{length, get_or}
use Rattle.engine_inputs.specs.Inputs.{value_from}
use Rattle.engine_inputs.proofs.cells_of.Given as goal

abbrev pub invariant-loop-e : goal.invariant-loop-e
invariant-loop-e l =
    ((j : ℕ) → j < l.e → get_or l.values j 0 ≡ value_from l.s l.starts l.count j)
    × ((length l.values ≡ 32) × (l.e ≤ 32))
