-- A number, digit by digit.
use mathlib.Core.Path.{◌≡◌, sym, ap, ◌∙◌}
use mathlib.Core.List.{List, ◌∷◌}
use Prim.Native.Nat.{ℕ, ◌+◌, ◌-◌, ◌*◌, ◌≤◌, ◌<◌}
use native.Mathlib.Numerals.{add-one}
use borrow.Author.Tests.{lt-ltb, le-ltb}
use lib.ListN.{length, get_or, drop, drop_of_length-le}
use lib.Seq.{drop-cons}
use Rattle.arguments.specs.Number.{with_digit, with_digits}

module _ (most k b : ℕ) where
  pub no_digit : b < 48 → k ≡ with_digit most k b
  unfolding with_digit
  no_digit h = rw (lt-ltb b 48 h)

  pub more : 48 ≤ b → most < k * 10 + (b - 48) → most ≡ with_digit most k b
  unfolding with_digit
  more h g = rw (le-ltb b 48 h, lt-ltb most (k * 10 + (b - 48)) g)

  pub enough : 48 ≤ b → k * 10 + (b - 48) ≤ most → k * 10 + (b - 48) ≡ with_digit most k b
  unfolding with_digit
  enough h g = rw (le-ltb b 48 h, le-ltb most (k * 10 + (b - 48)) g)

-- one turn
pub turn : {x : ℕ} (most k i n : ℕ) (t : List ℕ) → x ≡ with_digits most k (drop i t) → i < length t →
    n ≡ with_digit most k (get_or t i 0) → x ≡ with_digits most n (drop (i + 1) t)
unfolding with_digits
turn most k i n t e h g =
    let c : drop i t ≡ get_or t i 0 ∷ drop (i + 1) t =
    drop-cons t i 0 h ∙ ap (λ (j : ℕ). get_or t i 0 ∷ drop j t) (sym (add-one i)) in
    e ∙ ap (with_digits most k) c ∙ ap (λ (j : ℕ). with_digits most j (drop (i + 1) t)) (sym g)

pub end : {x : ℕ} (most k i : ℕ) (t : List ℕ) → x ≡ with_digits most k (drop i t) → length t ≤ i → k ≡ x
unfolding with_digits
end most k i t e h = sym (e ∙ ap (with_digits most k) (drop_of_length-le t h))
