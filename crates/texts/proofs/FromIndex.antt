-- Two texts compared, seen from an index on.
use mathlib.Core.Path.{◌≡◌, refl, sym, ap, ◌∙◌}
use mathlib.Core.Bool.{true, false}
use mathlib.Core.List.{List, [], ◌∷◌}
use Prim.Native.Nat.{ℕ, suc, ◌+◌, ◌-◌, ◌≤◌, ◌<◌}
use native.Mathlib.Numerals.{add-one}
use native.Mathlib.Omega.{arith}
use lib.ListN.{length, get_or, drop, length-drop, drop_of_length-le}
use lib.Seq.{drop-cons}
use lib.Dec.{ltb, leb}
use borrow.Author.Tests.{lt-ltb, le-ltb, le-leb, lt-leb, eq-eqb, ne_eqb}
use Rattle.texts.specs.Texts.{Text, eq_t, lt_t, order_t}
use Rattle.std.specs.declared.cmp.Ordering.TheVariants.{Less, Equal, Greater}

-- ---- the tests

module _ (x y : List ℕ) (i : ℕ) where
  pub lt_shorter : length x ≤ i → lt_t (drop i x) (drop i y) ≡ ltb i (length y)
  unfolding lt_t
  lt_shorter h = rw (drop_of_length-le x h) (rest (drop i y) refl)
    where
      rest : (z : List ℕ) → drop i y ≡ z → lt_t [] z ≡ ltb i (length y)
      rest [] e = let l : length y - i ≡ 0 = sym (length-drop i y) ∙ ap length e in sym (le-ltb i (length y) (omega arith))
      rest (c ∷ z) e = let l : length y - i ≡ suc (length z) = sym (length-drop i y) ∙ ap length e in
          sym (lt-ltb i (length y) (omega arith))

  pub lt_longer : i < length x → length y ≤ i → lt_t (drop i x) (drop i y) ≡ false
  unfolding lt_t
  lt_longer h k = rw (drop_of_length-le y k, drop-cons x i 0 h)

  pub eq_ended : length x ≤ i → eq_t (drop i y) (drop i x) ≡ leb (length y) i
  unfolding eq_t
  eq_ended h = rw (drop_of_length-le x h) (rest (drop i y) refl)
    where
      rest : (z : List ℕ) → drop i y ≡ z → eq_t z [] ≡ leb (length y) i
      rest [] e = let l : length y - i ≡ 0 = sym (length-drop i y) ∙ ap length e in sym (le-leb (length y) i (omega arith))
      rest (c ∷ z) e = let l : length y - i ≡ suc (length z) = sym (length-drop i y) ∙ ap length e in
          sym (lt-leb (length y) i (omega arith))

  pub eq_longer : i < length x → length y ≤ i → eq_t (drop i y) (drop i x) ≡ false
  unfolding eq_t
  eq_longer h k = rw (drop_of_length-le y k, drop-cons x i 0 h)

  module _ (h : i < length x) (k : i < length y) where
    pub lt_less : get_or x i 0 < get_or y i 0 → lt_t (drop i x) (drop i y) ≡ true
    unfolding lt_t
    lt_less l = rw (drop-cons x i 0 h, drop-cons y i 0 k, lt-ltb _ _ l)

    pub lt_more : get_or y i 0 < get_or x i 0 → lt_t (drop i x) (drop i y) ≡ false
    unfolding lt_t
    lt_more l =
        let g : get_or y i 0 ≤ get_or x i 0 = omega arith in
        rw (drop-cons x i 0 h, drop-cons y i 0 k, le-ltb _ _ g, ne_eqb (get_or x i 0) (get_or y i 0) (λ e. omega arith))

    pub lt_same : get_or y i 0 ≤ get_or x i 0 → get_or x i 0 ≤ get_or y i 0 →
        lt_t (drop i x) (drop i y) ≡ lt_t (drop (i + 1) x) (drop (i + 1) y)
    unfolding lt_t
    lt_same l m =
        let e : get_or x i 0 ≡ get_or y i 0 = omega arith in
        rw (drop-cons x i 0 h, drop-cons y i 0 k, le-ltb _ _ l, eq-eqb _ _ e, add-one i)

    pub eq_other : (get_or y i 0 ≡ get_or x i 0 → ⊥) → eq_t (drop i y) (drop i x) ≡ false
    unfolding eq_t
    eq_other l = rw (drop-cons x i 0 h, drop-cons y i 0 k, ne_eqb _ _ l)

    pub eq_same : get_or y i 0 ≡ get_or x i 0 → eq_t (drop i y) (drop i x) ≡ eq_t (drop (i + 1) y) (drop (i + 1) x)
    unfolding eq_t
    eq_same l = rw (drop-cons x i 0 h, drop-cons y i 0 k, eq-eqb _ _ l, add-one i)

-- ---- the order by cases

module _ (a b : Text) (i : ℕ) where
  pub ends : length a ≤ i → length b ≤ i → order_t (drop i a) (drop i b) ≡ Equal
  unfolding order_t eq_t
  ends h k = rw (drop_of_length-le a h, drop_of_length-le b k)

  pub shorter : length a ≤ i → i < length b → order_t (drop i a) (drop i b) ≡ Less
  unfolding order_t eq_t lt_t
  shorter h k = rw (drop_of_length-le a h, drop-cons b i 0 k)

  pub longer : i < length a → length b ≤ i → order_t (drop i a) (drop i b) ≡ Greater
  unfolding order_t eq_t lt_t
  longer h k = rw (drop_of_length-le b k, drop-cons a i 0 h)

  module _ (h : i < length a) (k : i < length b) where
    pub less : get_or a i 0 < get_or b i 0 → order_t (drop i a) (drop i b) ≡ Less
    unfolding order_t eq_t lt_t
    less l = rw (drop-cons a i 0 h, drop-cons b i 0 k, ne_eqb (get_or a i 0) (get_or b i 0) (λ e. omega arith), lt-ltb _ _ l)

    pub more : get_or b i 0 < get_or a i 0 → order_t (drop i a) (drop i b) ≡ Greater
    unfolding order_t eq_t lt_t
    more l =
        let g : get_or b i 0 ≤ get_or a i 0 = omega arith in
        rw (drop-cons a i 0 h, drop-cons b i 0 k, ne_eqb (get_or a i 0) (get_or b i 0) (λ e. omega arith), le-ltb _ _ g)

    pub same : get_or b i 0 ≤ get_or a i 0 → get_or a i 0 ≤ get_or b i 0 →
        order_t (drop i a) (drop i b) ≡ order_t (drop (i + 1) a) (drop (i + 1) b)
    unfolding order_t eq_t lt_t
    same l m = rw (
      drop-cons a i 0 h,
      drop-cons b i 0 k,
      eq-eqb (get_or a i 0) (get_or b i 0) (omega arith),
      le-ltb _ _ l,
      add-one i,
    )
