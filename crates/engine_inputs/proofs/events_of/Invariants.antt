use mathlib.Core.Path.{◌≡◌}
use Prim.Native.Nat.{ℕ, ◌-◌, ◌*◌, ◌≤◌, ◌<◌}
use lib.ListN.{length, get_or}
use Rattle.layout.specs.Sizes.{event_word_count}
use Rattle.engine_inputs.specs.Inputs.{event_from}
use Rattle.engine_inputs.proofs.events_of.Given as goal

abbrev pub invariant-loop-k : goal.invariant-loop-k
invariant-loop-k l =
    ((j : ℕ) → j < l.k → get_or l.words j 0 ≡ event_from l.s l.starts j)
    × ((length l.words ≡ event_word_count) × ((l.k ≤ l.n * 4) × ((j : ℕ) → l.k ≤ j → get_or l.words j 0 ≡ 0)))
