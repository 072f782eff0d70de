-- Numbers in decimal, one digit at a time from the right.
use mathlib.Core.Path.{◌≡◌, refl, sym, ap, ◌∙◌}
use mathlib.Core.List.{[], ◌∷◌, ◌++◌, append_assoc}
use Prim.Native.Nat.{ℕ, zero, suc, ◌+◌, ◌-◌, ◌*◌, ◌^◌, ◌/◌, ◌%◌, ◌≤◌, ◌<◌}
use native.Mathlib.Omega.{arith}
use lib.ListN.{length, get_or, length-append, get_or-append}
use lib.Seq.{get_or_at}
use mathlib.Core.Logic.{◌⊎◌, ⊎_elim}
use borrow.Author.Tests.{lt-ltb, le-ltb}
use Rattle.texts.specs.Texts.{Text, digits, decimal}
use Rattle.texts.proofs.Ordering.{lt_or_ge}

pub low : (f n : ℕ) (t : Text) → n < 10 → digits (suc f) n t ≡ (48 + n) ∷ t
unfolding digits
low f n t h = rw (lt-ltb n 10 h, digits)

pub high : (f n : ℕ) (t : Text) → 10 ≤ n → digits (suc f) n t ≡ digits f (n / 10) ((48 + n % 10) ∷ t)
unfolding digits
high f n t h = rw (le-ltb n 10 h, digits)

behind : (f n : ℕ) (t : Text) → digits f n t ≡ digits f n [] ++ t
unfolding digits
behind zero n t = refl
behind (suc f) n t =
    ⊎_elim
    (λ h. low f n t h ∙ ap (λ (l : Text). l ++ t) (sym (low f n [] h)))
    (λ h. high f n t h
    ∙ behind f (n / 10) ((48 + n % 10) ∷ t)
    ∙ sym (append_assoc (digits f (n / 10) []) ((48 + n % 10) ∷ []) t)
    ∙ ap (λ (l : Text). l ++ t) (sym (high f n [] h ∙ behind f (n / 10) ((48 + n % 10) ∷ []))))
    (lt_or_ge n 10)

-- enough fuel is enough: m is 10 to the power f
fuel : (f n m : ℕ) (t : Text) → m ≡ 10 ^ f → n < 10 * m → digits (suc f) n t ≡ digits (suc (suc f)) n t
fuel zero n m t e h = let k : n < 10 = omega arith in low zero n t k ∙ sym (low 1 n t k)
fuel (suc f) n m t e h =
    ⊎_elim
    (λ k. low (suc f) n t k ∙ sym (low (suc (suc f)) n t k))
    (λ k. high (suc f) n t k ∙ fuel f (n / 10) (10 ^ f) ((48 + n % 10) ∷ t) refl (omega arith)
    ∙ sym (high (suc (suc f)) n t k))
    (lt_or_ge n 10)

most : (f n : ℕ) (t : Text) → length (digits f n t) ≤ f + length t
unfolding digits
most zero n t = omega arith
most (suc f) n t =
    ⊎_elim
    (λ k. omega (arith, ap length (low f n t k)))
    (λ k. omega (arith, ap length (high f n t k), most f (n / 10) ((48 + n % 10) ∷ t)))
    (lt_or_ge n 10)

pub at_most : (n : ℕ) → length (decimal n) ≤ 20
unfolding decimal
at_most n = most 20 n []

pub small : (n : ℕ) → n < 10 → decimal n ≡ (48 + n) ∷ []
unfolding decimal
small n h = low 19 n [] h

pub step : (n : ℕ) → 10 ≤ n → n < 18446744073709551616 → decimal n ≡ decimal (n / 10) ++ ((48 + n % 10) ∷ [])
unfolding decimal
step n h k = high 19 n [] h ∙ behind 19 (n / 10) ((48 + n % 10) ∷ [])
    ∙ ap (λ (l : Text). l ++ ((48 + n % 10) ∷ [])) (fuel 18 (n / 10) (10 ^ 18) [] refl (omega arith))

pub length_step : (n : ℕ) → 10 ≤ n → n < 4294967296 → length (decimal n) ≡ length (decimal (n / 10)) + 1
length_step n h k = ap length (step n h (omega arith)) ∙ length-append (decimal (n / 10)) ((48 + n % 10) ∷ [])

pub length_small : (n : ℕ) → n < 10 → length (decimal n) ≡ 1
length_small n h = ap length (small n h)

-- the digit with k behind it
module _ (n : ℕ) (b : n < 4294967296) where
  pub digit_next : (k : ℕ) → 0 < k → k < length (decimal n) →
      (k - 1 < length (decimal (n / 10))) × (get_or (decimal n) (length (decimal n) - 1 - k) 0
      ≡ get_or (decimal (n / 10)) (length (decimal (n / 10)) - 1 - (k - 1)) 0)
  digit_next k p h =
      let m : 10 ≤ n = ⊎_elim (λ q. absurd (omega (arith, length_small n q))) (λ q. q) (lt_or_ge n 10) in
      let l = length_step n m b in
      let e : length (decimal n) - 1 - k ≡ length (decimal (n / 10)) - 1 - (k - 1) = omega arith in (
        omega arith,
        ap (λ (t : Text). get_or t (length (decimal n) - 1 - k) 0) (step n m (omega arith))
            ∙ rw e (get_or-append (decimal (n / 10)) ((48 + n % 10) ∷ []) 0 (length (decimal (n / 10)) - 1 - (k - 1))
            (omega arith)),
      )

  pub digit_last : get_or (decimal n) (length (decimal n) - 1 - 0) 0 ≡ 48 + n % 10
  digit_last =
      ⊎_elim
      (λ q. rw (small n q) (let e : 48 + n ≡ 48 + n % 10 = omega arith in e))
      (λ q.
      let e : length (decimal (n / 10)) ≡ length (decimal n) - 1 - 0 = omega (arith, length_step n q b) in
      ap (λ (t : Text). get_or t (length (decimal n) - 1 - 0) 0) (step n q (omega arith))
      ∙ get_or_at (decimal (n / 10)) (48 + n % 10) [] 0 _ e)
      (lt_or_ge n 10)
