-- Sets of places: one place more, all that pass a test, and how many there are.
use Rattle.std.specs.Prelude.{if◌then◌else◌}
use mathlib.Core.Path.{◌≡◌, refl, sym, ap, ◌∙◌}
use mathlib.Core.Bool.{Bool, true, false, ◌||◌, ◌&&◌}
use mathlib.Core.List.{List, [], ◌∷◌, ◌++◌, append-nil}
use mathlib.Core.Logic.{◌⊎◌, inl, inr, ⊎_elim}
use Prim.Native.Nat.{ℕ, zero, suc, ◌+◌, ◌-◌, ◌*◌, ◌/◌, ◌%◌, ◌^◌, ◌≤◌, ◌<◌, max}
use native.Mathlib.Omega.{arith}
use native.Mathlib.Nat.{one-mul, mul_comm, mod-eq_of_lt, div_self, div-eq_of_lt, pow-suc}
use native.Mathlib.Decide.{dec_lt}
use lib.Pow.{pow-lt, pow_pos, pow-add, shl-shr, shr-shr, shr_lt}
use lib.Bits.{bit_or, or_shr, or_step}
use lib.Dec.{eqb}
use lib.ListN.{length}
use lib.Count.{ones, ones_step}
use borrow.Author.Tests.{eq-eqb, ne_eqb}
use Rattle.texts.proofs.Bool.{or_false}
use Rattle.texts.specs.Lists.{keep}
use Rattle.lint_spec.specs.Reach.{places}
use Rattle.lint_reach.specs.Sets.{holds, members, with_m, collect}

bit : ℕ → ℕ → ℕ
bit x j = x / 2 ^ j % 2

low : (a b : ℕ) → b < 2 → (a * 2 + b) % 2 ≡ b
low a b h = omega arith

max_lt : (a b : ℕ) → a < 2 → b < 2 → max a b < 2
max_lt a b h k = omega arith

bit_of_or : (x y j : ℕ) → bit (bit_or x y) j ≡ max (bit x j) (bit y j)
unfolding bit
bit_of_or x y j =
    ap (λ (n : ℕ). n % 2) (or_shr x y j ∙ or_step (x / 2 ^ j) (y / 2 ^ j))
    ∙ low (bit_or (x / 2 ^ j / 2) (y / 2 ^ j / 2)) (max (x / 2 ^ j % 2) (y / 2 ^ j % 2))
    (max_lt (x / 2 ^ j % 2) (y / 2 ^ j % 2) (omega arith) (omega arith))

pub shl1 : (i : ℕ) → i < 32 → 1 * 2 ^ i % 4294967296 ≡ 2 ^ i
shl1 i h = rw one-mul (mod-eq_of_lt (pow-lt h))

max_is : (a b : ℕ) → a < 2 → b < 2 → eqb (max a b) 1 ≡ (eqb a 1 || eqb b 1)
max_is zero zero h k = refl
max_is zero (suc zero) h k = refl
max_is zero (suc (suc b)) h k = absurd (omega arith)
max_is (suc zero) zero h k = refl
max_is (suc zero) (suc zero) h k = refl
max_is (suc zero) (suc (suc b)) h k = absurd (omega arith)
max_is (suc (suc a)) b h k = absurd (omega arith)

-- a union's places
pub holds_or : (x y j : ℕ) → holds (bit_or x y) j ≡ (holds x j || holds y j)
unfolding holds bit
holds_or x y j = ap (λ (n : ℕ). eqb n 1) (bit_of_or x y j) ∙ max_is (x / 2 ^ j % 2) (y / 2 ^ j % 2) (omega arith) (omega arith)

-- ---- one place

even_pow : (m : ℕ) → 2 ^ suc m % 2 ≡ 0
even_pow m =
    let e : 2 ^ suc m ≡ 2 ^ m * 2 = pow-suc 2 m in
    omega arith

holds_self : (i : ℕ) → holds (2 ^ i) i ≡ true
unfolding holds
holds_self i = rw (div_self (pow_pos i))

holds_below : (j m : ℕ) → holds (2 ^ (j + suc m)) j ≡ false
unfolding holds
holds_below j m =
    let e : 2 ^ (j + suc m) / 2 ^ j ≡ 2 ^ suc m = ap (λ (n : ℕ). n / 2 ^ j)
    (pow-add 2 j (suc m) ∙ mul_comm (2 ^ j) (2 ^ suc m)) ∙ shl-shr (2 ^ suc m) j in
    rw (e, even_pow m)

holds_above : (i j : ℕ) → i < j → holds (2 ^ i) j ≡ false
unfolding holds
holds_above i j h =
    let e : 2 ^ i / 2 ^ j ≡ 0 = div-eq_of_lt (pow-lt h) in
    rw e

pub data Three (i j : ℕ) : Type 0 where
  less : i < j → Three i j
  same : i ≡ j → Three i j
  more : j < i → Three i j

pub three : (i j : ℕ) → Three i j
three i j = elim (dec_lt i j) [
  | yes h ↦ less h
  | no h ↦ elim (dec_lt j i) [ yes k ↦ more k | no k ↦ same (omega arith) ]
]

pub holds_one : (i j : ℕ) → holds (2 ^ i) j ≡ eqb i j
holds_one i j = cases (three i j)
  where
    cases : Three i j → holds (2 ^ i) j ≡ eqb i j
    cases (less h) = holds_above i j h ∙ sym (ne_eqb i j (λ e. omega arith))
    cases (same e) = ap (λ (k : ℕ). holds (2 ^ k) j) e ∙ holds_self j ∙ sym (eq-eqb i j e)
    cases (more h) =
        let e : i ≡ j + suc (i - j - 1) = omega arith in
        ap (λ (k : ℕ). holds (2 ^ k) j) e ∙ holds_below j (i - j - 1) ∙ sym (ne_eqb i j (λ z. omega arith))

-- a set with one place more
pub holds_with : (x i j : ℕ) → holds (bit_or x (2 ^ i)) j ≡ (holds x j || eqb i j)
holds_with x i j = holds_or x (2 ^ i) j ∙ ap (λ (b : Bool). holds x j || b) (holds_one i j)

pub holds_none : (j : ℕ) → holds 0 j ≡ false
unfolding holds
holds_none j =
    let e : 0 / 2 ^ j ≡ 0 = div-eq_of_lt (pow_pos j) in
    rw e

-- ---- all that pass a test

module _ (f : ℕ → Bool) where
  -- one step's places
  pub step_holds : (b : Bool) (i x j : ℕ) → holds (with_m x i b) j ≡ (holds x j || (b && eqb i j))
  unfolding with_m
  step_holds true i x j = holds_with x i j
  step_holds false i x j = sym (or_false (holds x j))

  -- places outside stay as they were
  pub collect_outside : (n i x j : ℕ) → (j < i) ⊎ (i + n ≤ j) → holds (collect f n i x) j ≡ holds x j
  unfolding collect
  collect_outside zero i x j h = refl
  collect_outside (suc n) i x j h =
      let o : (j < i + 1) ⊎ (i + 1 + n ≤ j) = ⊎_elim (λ w. inl (omega arith)) (λ w. inr (omega arith)) h in
      let d : i ≡ j → ⊥ = λ e. ⊎_elim (λ w. omega arith) (λ w. omega arith) h in
      collect_outside n (i + 1) (with_m x i (f i)) j o
      ∙ step_holds (f i) i x j
      ∙ ap (λ (b : Bool). holds x j || (f i && b)) (ne_eqb i j d)
      ∙ ap (λ (b : Bool). holds x j || b) (and_false (f i))
      ∙ or_false (holds x j)
    where
      and_false : (b : Bool) → (b && false) ≡ false
      and_false true = refl
      and_false false = refl

  pub collect_inside : (n i x j : ℕ) → i ≤ j → j < i + n → holds x j ≡ false → holds (collect f n i x) j ≡ f j
  unfolding collect
  collect_inside zero i x j h k e = absurd (omega arith)
  collect_inside (suc n) i x j h k e = cases (three i j) (λ a b d. collect_inside n (i + 1) (with_m x i (f i)) j a b d)
    where
      y : ℕ
      y = with_m x i (f i)

      here : i ≡ j → holds y j ≡ f j
      here z =
          step_holds (f i) i x j
          ∙ ap (λ (b : Bool). b || (f i && eqb i j)) e
          ∙ ap (λ (b : Bool). f i && b) (eq-eqb i j z)
          ∙ and_true (f i)
          ∙ ap f z
        where
          and_true : (b : Bool) → (b && true) ≡ b
          and_true true = refl
          and_true false = refl

      later : i < j → holds y j ≡ false
      later z =
          step_holds (f i) i x j
          ∙ ap (λ (b : Bool). b || (f i && eqb i j)) e
          ∙ ap (λ (b : Bool). f i && b) (ne_eqb i j (λ w. omega arith))
          ∙ and_false (f i)
        where
          and_false : (b : Bool) → (b && false) ≡ false
          and_false true = refl
          and_false false = refl

      cases : Three i j → (i + 1 ≤ j → j < i + 1 + n → holds y j ≡ false → holds (collect f n (i + 1) y) j ≡ f j) →
          holds (collect f n (i + 1) y) j ≡ f j
      cases (less z) ih = ih (omega arith) (omega arith) (later z)
      cases (same z) ih = collect_outside n (i + 1) y j (inl (omega arith)) ∙ here z
      cases (more z) ih = absurd (omega arith)

-- ---- lists of places

-- two tests that agree on the places keep the same
pub keep_same : (f g : ℕ → Bool) (n i : ℕ) → ((j : ℕ) → i ≤ j → j < i + n → f j ≡ g j) →
    keep f (places n i) ≡ keep g (places n i)
unfolding keep places
keep_same f g zero i h = refl
keep_same f g (suc n) i h =
    rw (h i (omega arith) (omega arith)) (ap (λ (l : List ℕ). if g i then i ∷ l else l)
    (keep_same f g n (i + 1) (λ j a b. h j (omega arith) (omega arith))))

pub keep_none : (f : ℕ → Bool) (n i : ℕ) → ((j : ℕ) → i ≤ j → j < i + n → f j ≡ false) → keep f (places n i) ≡ []
unfolding keep places
keep_none f zero i h = refl
keep_none f (suc n) i h = rw (h i (omega arith) (omega arith))
    (keep_none f n (i + 1) (λ j a b. h j (omega arith) (omega arith)))

pub places_more : (a b i : ℕ) → places (a + b) i ≡ places a i ++ places b (i + a)
unfolding places
places_more zero b i =
    let e : i + 0 ≡ i = omega arith in
    let f : 0 + b ≡ b = omega arith in
    rw (e, f)
places_more (suc a) b i =
    let e : suc a + b ≡ suc (a + b) = omega arith in
    let f : i + 1 + a ≡ i + suc a = omega arith in
    rw (e, ← f, places) (ap (λ (l : List ℕ). i ∷ l) (places_more a b (i + 1)))

pub keep_append : (f : ℕ → Bool) (l m : List ℕ) → keep f (l ++ m) ≡ keep f l ++ keep f m
unfolding keep
keep_append f [] m = refl
keep_append f (x ∷ l) m = cases (f x) (keep_append f l m)
  where
    cases : (b : Bool) → keep f (l ++ m) ≡ keep f l ++ keep f m →
        (if b then x ∷ keep f (l ++ m) else keep f (l ++ m)) ≡ (if b then x ∷ keep f l else keep f l) ++ keep f m
    cases true ih = ap (λ (z : List ℕ). x ∷ z) ih
    cases false ih = ih

-- the members of the set of those below n that pass the test
pub collect_members : (f : ℕ → Bool) (n : ℕ) → n ≤ 32 → members (collect f n 0 0) ≡ keep f (places n 0)
unfolding members
collect_members f n h =
    let x = collect f n 0 0 in
    let e : 32 ≡ n + (32 - n) = omega arith in
    ap (λ (k : ℕ). keep (holds x) (places k 0)) e
    ∙ ap (keep (holds x)) (places_more n (32 - n) 0)
    ∙ keep_append (holds x) (places n 0) (places (32 - n) (0 + n))
    ∙ ap (λ (l : List ℕ). l ++ keep (holds x) (places (32 - n) (0 + n)))
    (keep_same (holds x) f n 0 (λ j a b. collect_inside f n 0 0 j a b (holds_none j)))
    ∙ ap (λ (l : List ℕ). keep f (places n 0) ++ l) (keep_none (holds x) (32 - n) (0 + n)
    (λ j a b. collect_outside f n 0 0 j (inr (omega arith)) ∙ holds_none j))
    ∙ append-nil (keep f (places n 0))

-- ---- how many

ones_zero : ones 0 ≡ 0
unfolding ones
ones_zero = refl

ones_from : (x n i : ℕ) → x / 2 ^ i < 2 ^ n → ones (x / 2 ^ i) ≡ length (keep (holds x) (places n i))
unfolding keep places holds
ones_from x zero i h =
    let e : x / 2 ^ i ≡ 0 = omega arith in
    rw e ones_zero
ones_from x (suc n) i h =
    ones_step (x / 2 ^ i)
    ∙ ap (λ (k : ℕ). x / 2 ^ i % 2 + ones k) (shr-shr x i 1)
    ∙ ap (λ (k : ℕ). x / 2 ^ i % 2 + k) (ones_from x n (i + 1)
    (rw (shr-shr x i 1) at (shr_lt {n = x / 2 ^ i} n 1 (rw e at h))))
    ∙ cases (x / 2 ^ i % 2) (omega arith)
  where
    e : suc n ≡ n + 1
    e = omega arith

    cases : (b : ℕ) → b < 2 → b + length (keep (holds x) (places n (i + 1)))
        ≡ length (if eqb b 1 then i ∷ keep (holds x) (places n (i + 1)) else keep (holds x) (places n (i + 1)))
    cases zero k = omega arith
    cases (suc zero) k = omega arith
    cases (suc (suc b)) k = absurd (omega arith)

-- the count of ones is the number of places
pub ones_members : (x : ℕ) → x < 2 ^ 32 → ones x ≡ length (members x)
unfolding members
ones_members x h =
    let e : x / 2 ^ 0 ≡ x = omega arith in
    rw e at (ones_from x 32 0 (rw e h))
