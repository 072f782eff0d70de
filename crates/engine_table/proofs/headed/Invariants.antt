use mathlib.Core.Path.{◌≡◌}
use Prim.Native.Nat.{ℕ, ◌-◌, ◌≤◌, ◌<◌}
use lib.ListN.{length, get_or}
use Rattle.engine_table.specs.Table.{head_word}
use Rattle.engine_table.proofs.headed.Given as goal

abbrev pub invariant-loop-k : goal.invariant-loop-k
invariant-loop-k l =
    ((j : ℕ) → j < l.k → get_or l.words j 0 ≡ head_word l.s l.index j)
    × ((length l.words ≡ 336) × (l.k ≤ 16))
