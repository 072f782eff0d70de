-- A set is that of its members; the numbers of texts in a list where each stands once.
use Rattle.std.specs.Prelude.{if◌then◌else◌}
use mathlib.Core.Path.{◌≡◌, refl, sym, ap, ◌∙◌}
use mathlib.Core.Bool.{Bool, true, false}
use mathlib.Core.List.{List, [], ◌∷◌}
use Prim.Native.Nat.{ℕ, zero, suc, ◌+◌, ◌*◌, ◌/◌, ◌%◌, ◌^◌, ◌<◌}
use native.Mathlib.Omega.{arith}
use native.Mathlib.Nat.{mod-eq_of_lt, one-mul}
use lib.Pow.{mod-pow-add, pow_pos}
use native.Mathlib.Nat.{mod-lt}
use lib.Bits.{bit_or, or_shifted_r}
use lib.Dec.{eqb}
use lib.ListN.{length, get_or}
use borrow.Author.Tests.{eqb-true, eqb-false, eq-eqb, ne_eqb}
use Rattle.texts.specs.Lists.{is_empty, keep, each, through}
use Rattle.texts.specs.Texts.{Text, eq_t}
use Rattle.texts.proofs.Ordering.{eq_refl}
use Rattle.model_spec.specs.Rewrite.{place_of}
use Rattle.lint_spec.specs.Reach.{places}
use Rattle.lint_spec.specs.Words.{set_of}
use Rattle.lint_reach.specs.Sets.{holds, members}
use Rattle.lint_reach.proofs.Bits.{holds_none, keep_none}

-- ---- a set is that of its members

bit_two : (b : ℕ) → b < 2 → (b ≡ 1 → ⊥) → b ≡ 0
bit_two b h k = elim_two b h k
  where
    elim_two : (b : ℕ) → b < 2 → (b ≡ 1 → ⊥) → b ≡ 0
    elim_two zero h k = refl
    elim_two (suc zero) h k = absurd (k refl)
    elim_two (suc (suc b)) h k = absurd (omega arith)

module _ (x : ℕ) where
  next_bit : (i : ℕ) → x % 2 ^ (i + 1) ≡ (x / 2 ^ i % 2) * 2 ^ i + x % 2 ^ i
  next_bit i =
      let z : i + 1 ≡ 1 + i = omega arith in
      ap (λ (n : ℕ). x % 2 ^ n) z ∙ mod-pow-add x 1 i

  collected : (n i : ℕ) → through (λ i x. bit_or x (2 ^ i)) (keep (holds x) (places n i)) (x % 2 ^ i) ≡ x % 2 ^ (i + n)
  unfolding keep places through holds
  collected zero i =
      let z : i + 0 ≡ i = omega arith in
      rw z
  collected (suc n) i =
      let z : i + suc n ≡ i + 1 + n = omega arith in
      rw z (cases (eqb (x / 2 ^ i % 2) 1) refl (collected n (i + 1)))
    where
      add : ℕ → ℕ → ℕ
      add j y = bit_or y (2 ^ j)

      cases : (b : Bool) → eqb (x / 2 ^ i % 2) 1 ≡ b →
          through (λ i x. bit_or x (2 ^ i)) (keep (λ j. eqb (x / 2 ^ j % 2) 1) (places n (i + 1))) (x % 2 ^ (i + 1))
          ≡ x % 2 ^ (i + 1 + n) →
          through (λ i x. bit_or x (2 ^ i)) (if b then i ∷ keep (λ j. eqb (x / 2 ^ j % 2) 1) (places n (i + 1))
          else keep (λ j. eqb (x / 2 ^ j % 2) 1) (places n (i + 1))) (x % 2 ^ i) ≡ x % 2 ^ (i + 1 + n)
      cases true h ih =
          let o : bit_or (x % 2 ^ i) (2 ^ i) ≡ x % 2 ^ (i + 1) =
          ap (bit_or (x % 2 ^ i)) (sym (one-mul (2 ^ i)))
          ∙ or_shifted_r 1 i (x % 2 ^ i) (mod-lt x (pow_pos i))
          ∙ ap (λ (b : ℕ). b * 2 ^ i + x % 2 ^ i) (sym (eqb-true (x / 2 ^ i % 2) 1 h))
          ∙ sym (next_bit i) in
          ap (through (λ i x. bit_or x (2 ^ i)) (keep (λ j. eqb (x / 2 ^ j % 2) 1) (places n (i + 1)))) o ∙ ih
      cases false h ih =
          let b : x / 2 ^ i % 2 ≡ 0 = bit_two (x / 2 ^ i % 2) (omega arith) (eqb-false (x / 2 ^ i % 2) 1 h) in
          let o : x % 2 ^ i ≡ x % 2 ^ (i + 1) = sym (next_bit i ∙ ap (λ (b : ℕ). b * 2 ^ i + x % 2 ^ i) b ∙ omega arith) in
          ap (through (λ i x. bit_or x (2 ^ i)) (keep (λ j. eqb (x / 2 ^ j % 2) 1) (places n (i + 1)))) o ∙ ih

  pub set_members : x < 2 ^ 32 → set_of (members x) ≡ x
  unfolding set_of members
  set_members h =
      let z : 0 ≡ x % 2 ^ 0 = omega arith in
      ap (through (λ i x. bit_or x (2 ^ i)) (keep (holds x) (places 32 0))) z ∙ collected 32 0 ∙ mod-eq_of_lt h

members_none : members 0 ≡ []
unfolding members
members_none = keep_none (holds 0) 32 0 (λ j a b. holds_none j)

-- a set is 0 exactly if it has no members
pub set_empty : (x : ℕ) → x < 2 ^ 32 → eqb x 0 ≡ is_empty (members x)
set_empty x h = cases (members x) refl
  where
    none_of : set_of [] ≡ 0
    none_of = unfold set_of through in refl

    cases : (l : List ℕ) → members x ≡ l → eqb x 0 ≡ is_empty l
    cases [] e = unfold is_empty in eq-eqb x 0 (sym (set_members x h) ∙ ap set_of e ∙ none_of)
    cases (y ∷ l) e = unfold is_empty in ne_eqb x 0 (λ z. let w : y ∷ l ≡ [] = sym e ∙ ap members z ∙ members_none in
        let q : ◌≡◌ {A = ℕ} 0 1 = cc in omega arith)

-- ---- numbers of texts

unfoldable pub Once : List Text → Type 0
Once l = (i j : ℕ) → i < length l → j < length l → eq_t (get_or l i []) (get_or l j []) ≡ eqb i j

pub eqb_suc : (a b : ℕ) → eqb (suc a) (suc b) ≡ eqb a b
eqb_suc a b = cases (eqb a b) refl
  where
    cases : (c : Bool) → eqb a b ≡ c → eqb (suc a) (suc b) ≡ eqb a b
    cases true h = let z : a ≡ b = eqb-true a b h in eq-eqb (suc a) (suc b) (ap suc z) ∙ sym h
    cases false h = let z = eqb-false a b h in ne_eqb (suc a) (suc b) (λ e. z (omega arith)) ∙ sym h

pub once_at : (l : List Text) → Once l → (i j : ℕ) → i < length l → j < length l → eq_t (get_or l i []) (get_or l j []) ≡ eqb i j
unfolding Once
once_at l o i j h k = o i j h k

once_rest : (t : Text) (l : List Text) → Once (t ∷ l) → Once l
unfolding Once
once_rest t l o i j h k = o (suc i) (suc j) (omega arith) (omega arith) ∙ eqb_suc i j

pub place_at : (l : List Text) → Once l → (j : ℕ) → j < length l → place_of (get_or l j []) l ≡ j
unfolding place_of
place_at [] o j h = absurd (omega arith)
place_at (t ∷ l) o zero h = rw (eq_refl t)
place_at (t ∷ l) o (suc j) h =
    let z : eq_t (get_or l j []) t ≡ false = once_at (t ∷ l) o (suc j) 0 h (omega arith)
    ∙ ne_eqb (suc j) 0 (λ e. omega arith) in
    rw z (omega (arith, place_at l (once_rest t l o) j (omega arith)))

pub places_at : (l : List Text) → Once l → (ns : List ℕ) → ((j : ℕ) → j < length ns → get_or ns j 0 < length l) →
    each (λ t. place_of t l) (each (λ i. get_or l i []) ns) ≡ ns
unfolding each
places_at l o [] h = refl
places_at l o (n ∷ ns) h =
    ap (λ (k : ℕ). k ∷ each (λ t. place_of t l) (each (λ i. get_or l i []) ns)) (place_at l o n (h 0 (omega arith)))
    ∙ ap (λ (m : List ℕ). n ∷ m) (places_at l o ns (λ j k. h (suc j) (omega arith)))
