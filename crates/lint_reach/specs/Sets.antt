-- Sets of places below 32, as the bits of a number.
use Rattle.std.specs.Prelude.{ℕ, zero, suc, ◌+◌, ◌/◌, ◌%◌, ◌^◌, Bool, List, eqb, if◌then◌else◌}
use Rattle.std.specs.Int.Bits.{bit_or}
use Rattle.texts.specs.Lists.{keep}
use Rattle.lint_spec.specs.Reach.{places}

-- the place i is in the set
unfoldable pub holds : ℕ → ℕ → Bool
holds x i = eqb (x / 2 ^ i % 2) 1

-- the set's places, ascending
unfoldable pub members : ℕ → List ℕ
members x = keep (holds x) (places 32 0)

-- the set with the place i, if the test holds
unfoldable pub with_m : (set i : ℕ) → Bool → ℕ
with_m x i b = if b then bit_or x (2 ^ i) else x

-- the set with those of n places from i on that pass the test
unfoldable pub collect : (ℕ → Bool) → (n i : ℕ) → ℕ → ℕ
collect f zero i x = x
collect f (suc n) i x = collect f n (i + 1) (with_m x i (f i))
