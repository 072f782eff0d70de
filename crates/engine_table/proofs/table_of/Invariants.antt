use mathlib.Core.Path.{◌≡◌}
use Prim.Native.Nat.{ℕ, ◌+◌, ◌-◌, ◌*◌, ◌≤◌, ◌<◌}
use lib.ListN.{length, get_or}
use Rattle.engine_table.proofs.Laws as laws
use Rattle.engine_table.proofs.table_of.Given as goal

abbrev pub invariant-loop-k : goal.invariant-loop-k
invariant-loop-k l =
    ((j : ℕ) → j < l.k → get_or l.words j 0 ≡ laws.so_far l.count l.s l.names l.rules l.initial.words j)
    × ((length l.words ≡ 336) × ((16 ≤ l.k) × (l.k ≤ 80 + l.n * 8)))
