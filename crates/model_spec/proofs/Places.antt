-- A text's place among the texts is where it stands first.
use Prim.Native.Nat.{ℕ, zero, suc, ◌<◌}
use mathlib.Core.Path.{◌≡◌}
use mathlib.Core.Bool.{true, false}
use mathlib.Core.List.{List, [], ◌∷◌}
use native.Mathlib.Omega.{arith}
use lib.ListN.{length, get_or}
use Rattle.texts.specs.Texts.{Text, eq_t}
use Rattle.model_spec.specs.Rewrite.{place_of}

-- the first text that equals t
pub place_first : (t : Text) (l : List Text) (k : ℕ) → k < length l → eq_t t (get_or l k []) ≡ true →
    ((j : ℕ) → j < k → eq_t t (get_or l j []) ≡ false) → place_of t l ≡ k
unfolding place_of
place_first t [] k h a b = absurd (omega arith)
place_first t (u ∷ l) zero h a b = rw a
place_first t (u ∷ l) (suc k) h a b =
    rw (b 0 (omega arith)) (omega (arith, place_first t l k (omega arith) a (λ j o. b (suc j) (omega arith))))
