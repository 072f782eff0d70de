-- The rounds of the closing, on sets of numbers.
use Rattle.std.specs.Prelude.{ℕ, zero, suc, ◌+◌, ◌^◌, Bool, false, not, List, eqb, ltb, get_or, if◌then◌else◌}
use Rattle.std.specs.Int.Bits.{bit_and, bit_or}
use Rattle.lint_reach.specs.Sets.{holds}
use Rattle.cone_close.specs.declared.ConeSets.{ConeSets}

module _ (writes : List ℕ) where
  -- the i-th automation isn't in yet and writes one of the entities
  unfoldable pub adds_m : ConeSets → ℕ → Bool
  adds_m c i = if holds c.automations i then false else not (eqb (bit_and (get_or writes i 0) c.entities) 0)

  -- the first such of `left` automations from i on, or the number behind them
  unfoldable pub first_m : ConeSets → (left i : ℕ) → ℕ
  first_m c zero i = i
  first_m c (suc left) i = if adds_m c i then i else first_m c left (i + 1)

  module _ (needs : List ℕ) (count : ℕ) where
    unfoldable pub taken_m : ConeSets → ℕ → ConeSets
    taken_m c k = record {
      entities = bit_or c.entities (get_or needs k 0);
      automations = bit_or c.automations (2 ^ k);
    }

    unfoldable pub round_m : ConeSets → ConeSets
    round_m c = if ltb (first_m c count 0) count then taken_m c (first_m c count 0) else c

    unfoldable pub rounds_m : (rounds : ℕ) → ConeSets → ConeSets
    rounds_m zero c = c
    rounds_m (suc n) c = rounds_m n (round_m c)

    -- as many rounds as automations
    unfoldable pub closed_m : (start : ℕ) → ConeSets
    closed_m x = rounds_m count (record { entities = x; automations = 0 })
