-- The order of texts: it is total, and its tests say what they should.
use Rattle.std.specs.Prelude.{if◌then◌else◌}
use Rattle.std.specs.Ordering as order
use mathlib.Core.Path.{◌≡◌, refl, sym, ◌∙◌}
use mathlib.Core.Bool.{Bool, true, false}
use mathlib.Core.Logic.{◌⊎◌, inl, inr}
use mathlib.Core.List.{[], ◌∷◌}
use Prim.Native.Nat.{ℕ, ◌≤◌, ◌<◌}
use native.Mathlib.Omega.{arith}
use lib.Dec.{ltb}
use borrow.Author.Tests.{lt-ltb, le-ltb, eq-eqb, ne_eqb, ltb-true, ltb-false}
use Rattle.texts.specs.Texts.{Text, eq_t, lt_t, order_t}
use Rattle.std.specs.declared.cmp.Ordering.TheVariants.{Less, Equal, Greater}

pub lt_or_ge : (a b : ℕ) → (a < b) ⊎ (b ≤ a)
lt_or_ge a b = go (ltb a b) refl
  where
    go : (t : Bool) → ltb a b ≡ t → (a < b) ⊎ (b ≤ a)
    go true e = inl (ltb-true a b e)
    go false e = inr (ltb-false a b e)

-- s comes strictly before t
pub data Before : Text → Text → Type 0 where
  ends : {b : ℕ} {t : Text} → Before [] (b ∷ t)
  byte : {a b : ℕ} {s t : Text} → a < b → Before (a ∷ s) (b ∷ t)
  same : {a b : ℕ} {s t : Text} → a ≡ b → Before s t → Before (a ∷ s) (b ∷ t)

-- one comes before the other, or they are the same
pub data Three (s t : Text) : Type 0 where
  lt : Before s t → Three s t
  eq : s ≡ t → Three s t
  gt : Before t s → Three s t

pub three : (s t : Text) → Three s t
three [] [] = eq refl
three [] (b ∷ t) = lt ends
three (a ∷ s) [] = gt ends
three (a ∷ s) (b ∷ t) = go (lt_or_ge a b) (lt_or_ge b a) (three s t)
  where
    go : (a < b) ⊎ (b ≤ a) → (b < a) ⊎ (a ≤ b) → Three s t → Three (a ∷ s) (b ∷ t)
    go (inl h) k r = lt (byte h)
    go (inr h) (inl k) r = gt (byte k)
    go (inr h) (inr k) (lt p) = let e : a ≡ b = omega arith in lt (same e p)
    go (inr h) (inr k) (eq p) = let e : a ≡ b = omega arith in eq (cc)
    go (inr h) (inr k) (gt p) = let e : b ≡ a = omega arith in gt (same e p)

pub trans : {s t u : Text} → Before s t → Before t u → Before s u
trans ends (byte k) = ends
trans ends (same e q) = ends
trans (byte {a} h) (byte {b = c} k) = let r : a < c = omega arith in byte r
trans (byte {a} h) (same {b = c} e q) = let r : a < c = omega arith in byte r
trans (same {a} e p) (byte {b = c} k) = let r : a < c = omega arith in byte r
trans (same e p) (same g q) = same (e ∙ g) (trans p q)

-- what the tests say of it
pub lt_yes : {s t : Text} → Before s t → lt_t s t ≡ true
unfolding lt_t
lt_yes ends = refl
lt_yes (byte {a} {b} h) = rw (lt-ltb a b h)
lt_yes (same {a} {b} e p) = rw (le-ltb a b (omega arith), eq-eqb a b e) (lt_yes p)

pub lt_no : {s t : Text} → Before s t → lt_t t s ≡ false
unfolding lt_t
lt_no ends = refl
lt_no (byte {a} {b} h) = rw (le-ltb b a (omega arith), ne_eqb b a (λ e. omega arith))
lt_no (same {a} {b} e p) = rw (le-ltb b a (omega arith), eq-eqb b a (sym e)) (lt_no p)

pub eq_no : {s t : Text} → Before s t → eq_t s t ≡ false
unfolding eq_t
eq_no ends = refl
eq_no (byte {a} {b} h) = rw (ne_eqb a b (λ e. omega arith))
eq_no (same {a} {b} e p) = rw (eq-eqb a b e) (eq_no p)

pub no_eq : {s t : Text} → Before s t → eq_t t s ≡ false
unfolding eq_t
no_eq ends = refl
no_eq (byte {a} {b} h) = rw (ne_eqb b a (λ e. omega arith))
no_eq (same {a} {b} e p) = rw (eq-eqb b a (sym e)) (no_eq p)

pub eq_refl : (s : Text) → eq_t s s ≡ true
unfolding eq_t
eq_refl [] = refl
eq_refl (a ∷ s) = rw (eq-eqb a a refl) (eq_refl s)

pub lt_irrefl : (s : Text) → lt_t s s ≡ false
unfolding lt_t
lt_irrefl [] = refl
lt_irrefl (a ∷ s) = rw (le-ltb a a (omega arith), eq-eqb a a refl) (lt_irrefl s)

-- ---- the tests as equations

-- a test is not both
pub not_both : {b : Bool} → b ≡ false → b ≡ true → ⊥
not_both p q = let z : ◌≡◌ {A = ℕ} 0 1 = cc in omega arith

pub eq_is : (s t : Text) → eq_t s t ≡ true → s ≡ t
eq_is s t h = go (three s t)
  where
    go : Three s t → s ≡ t
    go (lt p) = absurd (not_both (eq_no p) h)
    go (eq e) = e
    go (gt p) = absurd (not_both (no_eq p) h)

pub is_eq : {s t : Text} → s ≡ t → eq_t s t ≡ true
is_eq {s} e = rw (← e) (eq_refl s)

pub eq_sym : (s t : Text) → eq_t s t ≡ eq_t t s
eq_sym s t = go (three s t)
  where
    go : Three s t → eq_t s t ≡ eq_t t s
    go (lt p) = eq_no p ∙ sym (no_eq p)
    go (eq e) = rw e
    go (gt p) = no_eq p ∙ sym (eq_no p)

pub lt_is : (s t : Text) → lt_t s t ≡ true → Before s t
lt_is s t h = go (three s t)
  where
    go : Three s t → Before s t
    go (lt p) = p
    go (eq e) = absurd (not_both (lt_irrefl t) (rw e at h))
    go (gt p) = absurd (not_both (lt_no p) h)

-- ---- what the answer of a comparison says

module _ (s t : Text) where
  pub is_same : Equal ≡ order_t s t → eq_t s t ≡ true
  unfolding order_t
  is_same = go (eq_t s t) (lt_t s t)
    where
      go : (e l : Bool) → Equal ≡ (if e then Equal else if l then Less else Greater) → e ≡ true
      go true l p = refl
      go false true p = cc
      go false false p = cc

  pub is_less : Less ≡ order_t s t → (eq_t s t ≡ false) × (lt_t s t ≡ true)
  unfolding order_t
  is_less = go (eq_t s t) (lt_t s t)
    where
      go : (e l : Bool) → Less ≡ (if e then Equal else if l then Less else Greater) → (e ≡ false) × (l ≡ true)
      go true l p = (cc, cc)
      go false true p = (refl, refl)
      go false false p = (cc, cc)

  pub is_greater : Greater ≡ order_t s t → (eq_t s t ≡ false) × (lt_t s t ≡ false)
  unfolding order_t
  is_greater = go (eq_t s t) (lt_t s t)
    where
      go : (e l : Bool) → Greater ≡ (if e then Equal else if l then Less else Greater) → (e ≡ false) × (l ≡ false)
      go true l p = (cc, cc)
      go false true p = (cc, cc)
      go false false p = (refl, refl)

  pub equal_is : order.is_eq (order_t s t) ≡ eq_t s t
  unfolding order_t
  equal_is = go (eq_t s t) (lt_t s t)
    where
      go : (e l : Bool) → order.is_eq (if e then Equal else if l then Less else Greater) ≡ e
      go true l = refl
      go false true = refl
      go false false = refl
