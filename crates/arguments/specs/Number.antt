-- A number in decimal, or the most if it is more. Bytes below `0` count for nothing.
use Rattle.std.specs.Prelude.{ℕ, ◌+◌, ◌-◌, ◌*◌, List, [], ◌∷◌, ltb, if◌then◌else◌}

abbrev pub at_most : (most n : ℕ) → ℕ
at_most most n = if ltb most n then most else n

-- a number with a digit behind it
unfoldable pub with_digit : (most k digit : ℕ) → ℕ
with_digit most k b = if ltb b 48 then k else at_most most (k * 10 + (b - 48))

-- with the digits of a text behind it
unfoldable pub with_digits : (most k : ℕ) → List ℕ → ℕ
with_digits most k [] = k
with_digits most k (b ∷ t) = with_digits most (with_digit most k b) t

abbrev pub number_of : (most : ℕ) → List ℕ → ℕ
number_of most t = with_digits most 0 t
