use Prim.Native.Nat.{ℕ, ◌-◌, ◌≤◌, ◌<◌}
use mathlib.Core.Path.{◌≡◌}
use lib.ListN.{length, get_or}
use Rattle.search_inputs.specs.Inputs.{gap_word}
use Rattle.search_inputs.proofs.gaps_of.Given as goal

abbrev pub invariant-loop-k : goal.invariant-loop-k
invariant-loop-k l =
    ((j : ℕ) → j < l.k → get_or l.seconds j 0 ≡ gap_word l.s l.index j)
    × ((length l.seconds ≡ 4) × (l.k ≤ 4))
