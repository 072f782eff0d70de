-- The laws that the proofs of ordered sections cite.
use Rattle.std.specs.Prelude.{Some, None}
use mathlib.Core.Path.{◌≡◌, refl, sym, ap, ◌∙◌}
use mathlib.Core.List.{List}
use mathlib.Core.Bool.{Bool, true, false, ◌&&◌}
use Prim.Native.Nat.{ℕ, zero, suc, ◌+◌, ◌-◌, ◌≤◌, ◌<◌}
use native.Mathlib.Numerals.{sub-one}
use native.Mathlib.Omega.{arith}
use lib.ListN.{length, get_or, drop}
use lib.Dec.{ltb, leb}
use borrow.Author.Tests.{le-leb, lt-leb, leb-true}
use Rattle.texts.specs.Texts.{text, eq_t, lt_t}
use Rattle.texts.specs.Places.{text_at}
use Rattle.texts.proofs.Laws.{text_length, text_byte}
use Rattle.texts.proofs.FromIndex.{lt_shorter, lt_longer, lt_less, lt_more, lt_same, eq_ended, eq_longer, eq_other, eq_same}
use Rattle.model_spec.specs.File.{u16}
use Rattle.model_walk.specs.Walk.{Num, Walked, found, Walk, and_then}
use Rattle.model_walk.proofs.Laws.{is_got, is_broken}
use Rattle.model_parts.specs.declared.Part.{Part}
use Rattle.model_parts.specs.declared.Part.TheVariants as part
use Rattle.model_parts.specs.Parts.{part_m, text_m}
use Rattle.model_order.specs.Order.{
  place_from,
  fits,
  text_before,
  place_before,
  before,
  chain,
  chained,
  ascending_m,
  among,
  has,
  texts_m,
}

-- ---- a text in the file

pub fits_yes : (s : List ℕ) (p : ℕ) → p + 1 + get_or s p 0 ≤ length s → fits s p ≡ true
unfolding fits
fits_yes s p h = le-leb _ _ h

pub fits_no : (s : List ℕ) (p : ℕ) → length s < p + 1 + get_or s p 0 → fits s p ≡ false
unfolding fits
fits_no s p h = lt-leb _ _ h

pub fits_is : (s : List ℕ) (p : ℕ) → fits s p ≡ true → p + 1 + get_or s p 0 ≤ length s
unfolding fits
fits_is s p h = leb-true _ _ h

pub fits_length : (s : List ℕ) (p : ℕ) → fits s p ≡ true → length (text_at s p) ≡ get_or s p 0
fits_length s p f = text_length s p (fits_is s p f)

-- ---- the text at a and the text at b, from their i-th bytes on

module _ (s : List ℕ) (a b : ℕ) where
  pub no_first : fits s a ≡ false → text_before s a b ≡ false
  unfolding text_before
  no_first e = rw e

  pub no_second : fits s a ≡ true → fits s b ≡ false → text_before s a b ≡ false
  unfolding text_before
  no_second e f = rw (e, f)

  module _ (e : fits s a ≡ true) (f : fits s b ≡ true) where
    pub whole : text_before s a b ≡ lt_t (text_at s a) (text_at s b)
    unfolding text_before
    whole = rw (e, f)

    module _ (i : ℕ) where
      la : length (text_at s a) ≡ get_or s a 0
      la = fits_length s a e

      lb : length (text_at s b) ≡ get_or s b 0
      lb = fits_length s b f

      pub shorter : get_or s a 0 ≤ i → lt_t (drop i (text_at s a)) (drop i (text_at s b)) ≡ ltb i (get_or s b 0)
      shorter h = lt_shorter _ _ i (omega (arith, la)) ∙ ap (ltb i) lb

      pub longer : i < get_or s a 0 → get_or s b 0 ≤ i → lt_t (drop i (text_at s a)) (drop i (text_at s b)) ≡ false
      longer h k = lt_longer _ _ i (omega (arith, la)) (omega (arith, lb))

      module _ (h : i < get_or s a 0) (k : i < get_or s b 0) where
        pub less : get_or s (a + 1 + i) 0 < get_or s (b + 1 + i) 0 → lt_t (drop i (text_at s a)) (drop i (text_at s b)) ≡ true
        less l = lt_less _ _ i (omega (arith, la)) (omega (arith, lb)) (omega (arith, text_byte s a i h, text_byte s b i k))

        pub more : get_or s (b + 1 + i) 0 < get_or s (a + 1 + i) 0 → lt_t (drop i (text_at s a)) (drop i (text_at s b)) ≡ false
        more l = lt_more _ _ i (omega (arith, la)) (omega (arith, lb)) (omega (arith, text_byte s a i h, text_byte s b i k))

        pub same : get_or s (b + 1 + i) 0 ≤ get_or s (a + 1 + i) 0 → get_or s (a + 1 + i) 0 ≤ get_or s (b + 1 + i) 0 →
            lt_t (drop i (text_at s a)) (drop i (text_at s b)) ≡ lt_t (drop (i + 1) (text_at s a)) (drop (i + 1) (text_at s b))
        same l m = lt_same _ _ i (omega (arith, la)) (omega (arith, lb))
            (omega (arith, text_byte s a i h, text_byte s b i k)) (omega (arith, text_byte s a i h, text_byte s b i k))

-- the word w and the text at p
module _ (w s : List ℕ) (p : ℕ) where
  pub is_none : fits s p ≡ false → (fits s p && eq_t w (text_at s p)) ≡ false
  is_none e = rw e

  module _ (e : fits s p ≡ true) where
    pub is_whole : (fits s p && eq_t w (text_at s p)) ≡ eq_t w (text_at s p)
    is_whole = rw e

    module _ (i : ℕ) where
      lp : length (text_at s p) ≡ get_or s p 0
      lp = fits_length s p e

      pub is_ended : get_or s p 0 ≤ i → eq_t (drop i w) (drop i (text_at s p)) ≡ leb (length w) i
      is_ended h = eq_ended (text_at s p) w i (omega (arith, lp))

      pub is_longer : i < get_or s p 0 → length w ≤ i → eq_t (drop i w) (drop i (text_at s p)) ≡ false
      is_longer h k = eq_longer (text_at s p) w i (omega (arith, lp)) k

      module _ (h : i < get_or s p 0) (k : i < length w) where
        pub is_other : (get_or w i 0 ≡ get_or s (p + 1 + i) 0 → ⊥) → eq_t (drop i w) (drop i (text_at s p)) ≡ false
        is_other l = eq_other (text_at s p) w i (omega (arith, lp)) k (λ g. l (g ∙ text_byte s p i h))

        pub is_same : get_or w i 0 ≡ get_or s (p + 1 + i) 0 →
            eq_t (drop i w) (drop i (text_at s p)) ≡ eq_t (drop (i + 1) w) (drop (i + 1) (text_at s p))
        is_same l = eq_same (text_at s p) w i (omega (arith, lp)) k (l ∙ sym (text_byte s p i h))

-- ---- places

module _ (s : List ℕ) (a b : ℕ) where
  module _ {f : Num} (e : found f ≡ u16 s a) where
    pub place_none : f ≡ None → place_before s a b ≡ false
    unfolding place_before
    place_none h = rw (is_broken e h, place_before)

    module _ {x o : ℕ} (h : f ≡ Some (x, o)) {g : Num} (d : found g ≡ u16 s b) where
      pub place_none₂ : g ≡ None → place_before s a b ≡ false
      unfolding place_before
      place_none₂ k = rw (is_got e h, is_broken d k, place_before)

      pub place_both : {y q : ℕ} → g ≡ Some (y, q) → place_before s a b ≡ ltb x y
      unfolding place_before
      place_both k = rw (is_got e h, is_got d k, place_before)

  pub by_text : {x : Bool} → x ≡ true → before x s a b ≡ text_before s a b
  unfolding before
  by_text e = rw e

  pub by_place : {x : Bool} → x ≡ false → before x s a b ≡ place_before s a b
  unfolding before
  by_place e = rw e

-- ---- chains

module _ (ts : ℕ) (t : Part) (x : Bool) (s : List ℕ) (p : ℕ) {f : Num} (e : found f ≡ u16 s p) where
  pub ascending_none : f ≡ None → ascending_m ts t x s p ≡ None
  unfolding ascending_m
  ascending_none h = rw (is_broken e h, ascending_m)

  pub ascending_is : {c q : ℕ} → f ≡ Some (c, q) → ascending_m ts t x s p ≡ chained (part_m ts t) c x s q
  unfolding ascending_m
  ascending_is h = rw (is_got e h, ascending_m)

module _ (k : Walk) (x : Bool) (s : List ℕ) (p : ℕ) where
  pub chained_none : (c : ℕ) → c ≡ 0 → chained k c x s p ≡ Some (p, 0)
  unfolding chained
  chained_none c h = rw h

  module _ {y : Walked} (e : y ≡ k s p 0) where
    pub chained_broken : (c : ℕ) → (c ≡ 0 → ⊥) → y ≡ None → chained k c x s p ≡ None
    unfolding chained and_then
    chained_broken zero n h = absurd (n refl)
    chained_broken (suc c) n h = rw (sym e ∙ h, and_then)

    pub chained_to : {q m : ℕ} (c : ℕ) → (c ≡ 0 → ⊥) → y ≡ Some (q, m) → chained k c x s p ≡ chain k (c - 1) x p s q
    unfolding chained and_then
    chained_to zero n h = absurd (n refl)
    chained_to (suc c) n h = rw (sub-one (suc c), sym e ∙ h, and_then)

    module _ (a : ℕ) where
      pub chain_broken : (c : ℕ) → 0 < c → y ≡ None → chain k c x a s p ≡ None
      unfolding chain and_then
      chain_broken zero n h = absurd (omega arith)
      chain_broken (suc c) n h = rw (sym e ∙ h, and_then)

      module _ {q m : ℕ} (h : y ≡ Some (q, m)) {z : Bool} (f : z ≡ before x s a p) where
        pub chain_off : (c : ℕ) → 0 < c → z ≡ false → chain k c x a s p ≡ None
        unfolding chain and_then
        chain_off zero n g = absurd (omega arith)
        chain_off (suc c) n g = rw (sym e ∙ h, sym f ∙ g, and_then)

        pub chain_on : (c : ℕ) → 0 < c → z ≡ true → chain k c x a s p ≡ chain k (c - 1) x p s q
        unfolding chain and_then
        chain_on zero n g = absurd (omega arith)
        chain_on (suc c) n g = rw (sub-one (suc c), sym e ∙ h, sym f ∙ g, and_then)

  pub chain_end : (a c : ℕ) → c ≤ 0 → chain k c x a s p ≡ Some (p, 0)
  unfolding chain
  chain_end a zero h = refl
  chain_end a (suc c) h = absurd (omega arith)

-- ---- a word among the texts

module _ (w s : List ℕ) (p : ℕ) where
  module _ {f : Num} (e : found f ≡ u16 s p) where
    pub has_none : f ≡ None → has w s p ≡ false
    unfolding has
    has_none h = rw (is_broken e h, has)

    pub has_is : {c q : ℕ} → f ≡ Some (c, q) → has w s p ≡ among c w s q
    unfolding has
    has_is h = rw (is_got e h, has)

  pub among_end : (c : ℕ) → c ≤ 0 → among c w s p ≡ false
  unfolding among
  among_end zero h = refl
  among_end (suc c) h = absurd (omega arith)

  module _ {y : Walked} (e : y ≡ text_m s p 0) where
    pub among_broken : (c : ℕ) → 0 < c → y ≡ None → among c w s p ≡ false
    unfolding among
    among_broken zero n h = absurd (omega arith)
    among_broken (suc c) n h = rw (sym e ∙ h, among)

    module _ {q m : ℕ} (h : y ≡ Some (q, m)) {z : Bool} (f : z ≡ (fits s p && eq_t w (text_at s p))) where
      pub among_here : (c : ℕ) → 0 < c → z ≡ true → among c w s p ≡ true
      unfolding among
      among_here zero n g = absurd (omega arith)
      among_here (suc c) n g = rw (sym e ∙ h, sym f ∙ g, among)

      pub among_later : (c : ℕ) → 0 < c → z ≡ false → among c w s p ≡ among (c - 1) w s q
      unfolding among
      among_later zero n g = absurd (omega arith)
      among_later (suc c) n g = rw (sub-one (suc c), sym e ∙ h, sym f ∙ g, among)

-- ---- the section of texts

module _ (s : List ℕ) (p : ℕ) where
  pub no_on : has (text "on") s p ≡ false → texts_m s p ≡ None
  unfolding texts_m
  no_on e = rw e

  module _ (a : has (text "on") s p ≡ true) where
    pub no_off : has (text "off") s p ≡ false → texts_m s p ≡ None
    unfolding texts_m
    no_off e = rw (a, e)

    module _ (b : has (text "off") s p ≡ true) where
      pub no_unknown : has (text "unknown") s p ≡ false → texts_m s p ≡ None
      unfolding texts_m
      no_unknown e = rw (a, b, e)

      module _ (c : has (text "unknown") s p ≡ true) where
        pub no_unavailable : has (text "unavailable") s p ≡ false → texts_m s p ≡ None
        unfolding texts_m
        no_unavailable e = rw (a, b, c, e)

        pub all_there : has (text "unavailable") s p ≡ true → texts_m s p ≡ ascending_m 0 part.Text true s p
        unfolding texts_m
        all_there e = rw (a, b, c, e)

-- ---- the place of a word

module _ (w s : List ℕ) (p k : ℕ) where
  pub place_end : (c : ℕ) → c ≤ 0 → place_from c k w s p ≡ k
  unfolding place_from
  place_end zero h = refl
  place_end (suc c) h = absurd (omega arith)

  module _ {z : Bool} (e : z ≡ (fits s p && eq_t w (text_at s p))) where
    pub place_here : (c : ℕ) → 0 < c → z ≡ true → place_from c k w s p ≡ k
    unfolding place_from
    place_here zero h t = absurd (omega arith)
    place_here (suc c) h t = rw (sym e ∙ t, place_from)

    pub place_later : (c q : ℕ) → 0 < c → z ≡ false → q ≡ p + 1 + get_or s p 0 →
        place_from c k w s p ≡ place_from (c - 1) (k + 1) w s q
    unfolding place_from
    place_later zero q h t o = absurd (omega arith)
    place_later (suc c) q h t o = rw (sub-one (suc c), o) (rw (sym e ∙ t, place_from))

pub place_left : (k : ℕ) (w s : List ℕ) (p : ℕ) {a b : ℕ} → a ≡ b → place_from a k w s p ≡ place_from b k w s p
place_left k w s p e = ap (λ (c : ℕ). place_from c k w s p) e
