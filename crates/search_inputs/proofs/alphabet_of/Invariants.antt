use Prim.Native.Nat.{ℕ, ◌-◌, ◌≤◌, ◌<◌}
use mathlib.Core.Path.{◌≡◌}
use lib.ListN.{length, get_or}
use Rattle.search_inputs.specs.Inputs.{input_word}
use Rattle.search_inputs.proofs.alphabet_of.Given as goal

abbrev pub invariant-loop-k : goal.invariant-loop-k
invariant-loop-k l =
    ((j : ℕ) → j < l.k → get_or l.words j 0 ≡ input_word l.s l.index j)
    × ((length l.words ≡ 36) × (l.k ≤ 36))
