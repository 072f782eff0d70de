-- Lists of texts that ascend strictly: `sorted_t` makes one, and two with the same members are equal.
use mathlib.Core.Path.{◌≡◌, refl, sym, ap, ◌∙◌}
use mathlib.Core.Bool.{Bool, true, false, ◌||◌, ◌&&◌, or_assoc}
use mathlib.Core.List.{List, [], ◌∷◌, ◌++◌}
use Prim.Native.Nat.{ℕ, zero, suc, ◌+◌, ◌<◌}
use native.Mathlib.Omega.{arith}
use lib.ListN.{length, get_or}
use Rattle.texts.specs.Lists.{any}
use Rattle.texts.specs.Texts.{Text, eq_t, lt_t, mem_t, insert_t, sorted_t}
use Rattle.texts.proofs.Ordering.{
  Before,
  Three,
  lt,
  eq,
  gt,
  three,
  trans,
  lt_yes,
  lt_no,
  eq_no,
  no_eq,
  eq_refl,
  not_both,
  eq_is,
  lt_is,
}
use Rattle.model_spec.specs.File.{ascending}

-- the text comes before each of the list
pub data Above (t : Text) : List Text → Type 0 where
  over_none : Above t []
  over_one : {u : Text} {l : List Text} → Before t u → Above t l → Above t (u ∷ l)

pub data Rising : List Text → Type 0 where
  rise_none : Rising []
  rise : {t : Text} {l : List Text} → Above t l → Rising l → Rising (t ∷ l)

above_more : {t u : Text} {l : List Text} → Before t u → Above u l → Above t l
above_more p over_none = over_none
above_more p (over_one q f) = over_one (trans p q) (above_more p f)

-- ---- members

pub mem_cons : (t x : Text) (l : List Text) → mem_t t (x ∷ l) ≡ (eq_t t x || mem_t t l)
unfolding mem_t any
mem_cons t x l = refl

pub mem_none : (t : Text) → mem_t t [] ≡ false
unfolding mem_t any
mem_none t = refl

pub mem_append : (t : Text) (l m : List Text) → mem_t t (l ++ m) ≡ (mem_t t l || mem_t t m)
unfolding mem_t any
mem_append t [] m = refl
mem_append t (x ∷ l) m = ap (λ (b : Bool). eq_t t x || b) (mem_append t l m) ∙ sym (or_assoc (eq_t t x) (mem_t t l) (mem_t t m))

pub above_not : {t : Text} {l : List Text} → Above t l → mem_t t l ≡ false
above_not {t} over_none = mem_none t
above_not {t} (over_one {u} {l} p f) = mem_cons t u l ∙ rw (eq_no p) (above_not f)

-- ---- insertion

above_insert : {u t : Text} (l : List Text) → Before u t → Above u l → Above u (insert_t t l)
unfolding insert_t
above_insert l p over_none = over_one p over_none
above_insert {u} {t} l p (over_one {u = x} {l = m} q f) = cases (three t x) (above_insert m p f)
  where
    cases : Three t x → Above u (insert_t t m) → Above u (insert_t t (x ∷ m))
    cases (lt r) ih = rw (eq_no r, lt_yes r) (over_one p (over_one q f))
    cases (eq r) ih = rw (r, eq_refl x) (over_one q f)
    cases (gt r) ih = rw (no_eq r, lt_no r) (over_one q ih)

pub rising_insert : (t : Text) (l : List Text) → Rising l → Rising (insert_t t l)
unfolding insert_t
rising_insert t l rise_none = rise over_none rise_none
rising_insert t l (rise {t = x} {l = m} a f) = cases (three t x) (rising_insert t m f)
  where
    cases : Three t x → Rising (insert_t t m) → Rising (insert_t t (x ∷ m))
    cases (lt r) ih = rw (eq_no r, lt_yes r) (rise (over_one r (above_more r a)) (rise a f))
    cases (eq r) ih = rw (r, eq_refl x) (rise a f)
    cases (gt r) ih = rw (no_eq r, lt_no r) (rise (above_insert m r a) ih)

pub rising_sorted : (l : List Text) → Rising (sorted_t l)
unfolding sorted_t
rising_sorted [] = rise_none
rising_sorted (t ∷ l) = rising_insert t (sorted_t l) (rising_sorted l)

mem_insert : (t u : Text) (l : List Text) → mem_t t (insert_t u l) ≡ (eq_t t u || mem_t t l)
unfolding insert_t
mem_insert t u [] = mem_cons t u []
mem_insert t u (x ∷ l) = cases (three u x) (mem_insert t u l)
  where
    swap : (a b c : Bool) → (a || (b || c)) ≡ (b || (a || c))
    swap true true c = refl
    swap true false c = refl
    swap false b c = refl

    twice : (a c : Bool) → (a || c) ≡ (a || (a || c))
    twice true c = refl
    twice false c = refl

    cases : Three u x → mem_t t (insert_t u l) ≡ (eq_t t u || mem_t t l) →
        mem_t t (insert_t u (x ∷ l)) ≡ (eq_t t u || mem_t t (x ∷ l))
    cases (lt r) ih = rw (eq_no r, lt_yes r) (mem_cons t u (x ∷ l))
    cases (eq r) ih = rw (r, eq_refl x) (rw (mem_cons t x l) (twice (eq_t t x) (mem_t t l)))
    cases (gt r) ih = rw (no_eq r, lt_no r) (mem_cons t x (insert_t u l) ∙ ap (λ (b : Bool). eq_t t x || b) ih
        ∙ swap (eq_t t x) (eq_t t u) (mem_t t l) ∙ ap (λ (b : Bool). eq_t t u || b) (sym (mem_cons t x l)))

pub mem_sorted : (t : Text) (l : List Text) → mem_t t (sorted_t l) ≡ mem_t t l
unfolding sorted_t
mem_sorted t [] = refl
mem_sorted t (x ∷ l) = mem_insert t x (sorted_t l) ∙ ap (λ (b : Bool). eq_t t x || b) (mem_sorted t l) ∙ sym (mem_cons t x l)

-- ---- two with the same members

pub unique : (a b : List Text) → Rising a → Rising b → ((t : Text) → mem_t t a ≡ mem_t t b) → a ≡ b
unique [] [] f g h = refl
unique [] (y ∷ b) f g h = absurd (not_both (sym (h y) ∙ mem_none y) (mem_cons y y b ∙ rw (eq_refl y)))
unique (x ∷ a) [] f g h = absurd (not_both (h x ∙ mem_none x) (mem_cons x x a ∙ rw (eq_refl x)))
unique (x ∷ a) (y ∷ b) (rise p f) (rise q g) h = cases (three x y) (λ k. unique a b f g k)
  where
    first : (x y : Text) (a b : List Text) → ((t : Text) → mem_t t (x ∷ a) ≡ mem_t t (y ∷ b)) → Above y b → Before x y → ⊥
    first x y a b h q r =
        not_both (h x ∙ mem_cons x y b ∙ rw (eq_no r) (above_not (above_more r q))) (mem_cons x x a ∙ rw (eq_refl x))

    -- the others have the same members too
    rest : x ≡ y → (t : Text) → mem_t t a ≡ mem_t t b
    rest e t = go (eq_t t x) refl
      where
        go : (c : Bool) → eq_t t x ≡ c → mem_t t a ≡ mem_t t b
        go true d =
            let z : t ≡ x = eq_is t x d in
            let u : mem_t t a ≡ false = rw z (above_not p) in
            let v : mem_t t b ≡ false = rw (z ∙ e) (above_not q) in
            u ∙ sym v
        go false d =
            let l : mem_t t (x ∷ a) ≡ mem_t t a = mem_cons t x a ∙ rw d in
            let r : mem_t t (y ∷ b) ≡ mem_t t b = mem_cons t y b ∙ rw (← e) (rw d) in
            sym l ∙ h t ∙ r

    cases : Three x y → (((t : Text) → mem_t t a ≡ mem_t t b) → a ≡ b) → x ∷ a ≡ y ∷ b
    cases (lt r) ih = absurd (first x y a b h q r)
    cases (eq e) ih = ap (λ (l : List Text). x ∷ l) (ih (rest e)) ∙ ap (λ (t : Text). t ∷ b) e
    cases (gt r) ih = absurd (first y x b a (λ t. sym (h t)) p r)

-- ---- by place

pub rising_before : (l : List Text) → Rising l → (i j : ℕ) → i < j → j < length l → Before (get_or l i []) (get_or l j [])
rising_before [] f i j h k = absurd (omega arith)
rising_before (x ∷ l) f i zero h k = absurd (omega arith)
rising_before (x ∷ l) (rise a f) zero (suc j) h k = go l a j (omega arith)
  where
    go : (l : List Text) → Above x l → (j : ℕ) → j < length l → Before x (get_or l j [])
    go [] a j h = absurd (omega arith)
    go (y ∷ l) (over_one p a) zero h = p
    go (y ∷ l) (over_one p a) (suc j) h = go l a j (omega arith)
rising_before (x ∷ l) (rise a f) (suc i) (suc j) h k = rising_before l f i j (omega arith) (omega arith)

pub rising_ascending : (l : List Text) → ascending l ≡ true → Rising l
unfolding ascending
rising_ascending [] e = rise_none
rising_ascending (t ∷ []) e = rise over_none rise_none
rising_ascending (t ∷ u ∷ l) e = cases (rising_ascending (u ∷ l) (right (lt_t t u) (ascending (u ∷ l)) e))
  where
    left : (a b : Bool) → (a && b) ≡ true → a ≡ true
    left true b h = refl
    left false b h = h

    right : (a b : Bool) → (a && b) ≡ true → b ≡ true
    right true b h = h
    right false b h = let z : ◌≡◌ {A = ℕ} 0 1 = cc in absurd (omega arith)

    p : Before t u
    p = lt_is t u (left (lt_t t u) (ascending (u ∷ l)) e)

    cases : Rising (u ∷ l) → Rising (t ∷ u ∷ l)
    cases (rise a f) = rise (over_one p (above_more p a)) (rise a f)
