-- Places of texts: they compare as the texts do, and they are where the file's texts stand.
use Rattle.std.specs.Prelude.{if◌then◌else◌}
use mathlib.Core.Path.{◌≡◌, refl, sym, ap, ap₂, ◌∙◌, subst}
use mathlib.Core.List.{List, [], ◌∷◌}
use mathlib.Core.Bool.{Bool, true, false, ◌&&◌, ◌||◌}
use Prim.Native.Nat.{ℕ, zero, suc, ◌+◌, ◌*◌, ◌≤◌, ◌<◌}
use native.Mathlib.Omega.{arith}
use native.Mathlib.Decide.{dec_lt}
use native.Mathlib.Nat.{le_of_suc-le-suc, not-suc-le-zero}
use native.Mathlib.Numerals.{add-one}
use lib.ListN.{length, get_or, take, drop}
use lib.Seq.{drop-cons}
use lib.Dec.{ltb, eqb}
use borrow.Author.Tests.{lt-ltb, le-ltb, eq-eqb, ne_eqb}
use Rattle.texts.proofs.Bool.{and_left}
use Rattle.texts.specs.Lists.{all, any}
use Rattle.texts.specs.Texts.{Text, text, eq_t, lt_t, mem_t}
use Rattle.texts.specs.Places.{text_at, start_from, texts_from}
use Rattle.texts.proofs.Laws.{text_at_place, texts_many, length_byte}
use Rattle.texts.proofs.Ordering.{not_both, eq_is, Before, trans, lt_is, lt_yes, lt_no, eq_no, no_eq, eq_refl, lt_irrefl}
use Rattle.model_spec.specs.File.{
  Got,
  got,
  broken,
  give,
  require,
  u8,
  u16,
  times,
  counted,
  printable,
  one_text,
  ascending,
  has_fixed,
  texts,
}
use Rattle.model_walk.proofs.Laws.{bind_got, bind_broken, u8_in, u8_out, u16_in, u16_out}
use Rattle.model_parts.proofs.Stands.{more}
use Rattle.model_order.specs.Order.{fits, place_from, Fixed}
use Rattle.model_order.proofs.Laws.{fits_yes, place_here, place_later, place_left}

-- a test that keeps its equation
pub data Case (b : Bool) : Type 0 where
  is_true : b ≡ true → Case b
  is_false : b ≡ false → Case b

pub case : (b : Bool) → Case b
case true = is_true refl
case false = is_false refl

-- ---- places compare as texts do

and_second : (a b : Bool) → (a && b) ≡ true → b ≡ true
and_second true b h = h
and_second false b h = absurd (not_both refl h)

tail_ascends : (t : Text) (l : List Text) → ascending (t ∷ l) ≡ true → ascending l ≡ true
unfolding ascending
tail_ascends t [] h = refl
tail_ascends t (u ∷ l) h = and_second (lt_t t u) _ h

head_before : (t : Text) (l : List Text) → ascending (t ∷ l) ≡ true → (j : ℕ) → j < length l → Before t (get_or l j [])
unfolding ascending
head_before t [] h j k = absurd (not-suc-le-zero k)
head_before t (u ∷ l) h zero k = lt_is t u (and_left (lt_t t u) _ h)
head_before t (u ∷ l) h (suc j) k = trans (lt_is t u (and_left (lt_t t u) _ h))
    (head_before u l (and_second (lt_t t u) _ h) j (le_of_suc-le-suc k))

-- the text at the lower place comes before the text at the higher
pub in_order : (ts : List Text) → ascending ts ≡ true → (i j : ℕ) → i < j → j < length ts →
    Before (get_or ts i []) (get_or ts j [])
in_order [] h i j g k = absurd (not-suc-le-zero k)
in_order (t ∷ l) h i zero g k = absurd (not-suc-le-zero g)
in_order (t ∷ l) h zero (suc j) g k = head_before t l h j (le_of_suc-le-suc k)
in_order (t ∷ l) h (suc i) (suc j) g k = in_order l (tail_ascends t l h) i j (le_of_suc-le-suc g) (le_of_suc-le-suc k)

pub place_order : (ts : List Text) → ascending ts ≡ true → (i j : ℕ) → i < length ts → j < length ts →
    lt_t (get_or ts i []) (get_or ts j []) ≡ ltb i j
place_order ts h i j f g = elim (dec_lt i j) [
  | yes k ↦ lt_yes (in_order ts h i j k g) ∙ sym (lt-ltb i j k)
  | no k ↦ elim (dec_lt j i) [
    | yes m ↦ lt_no (in_order ts h j i m f)
    | no m ↦ let e : j ≡ i = omega arith in rw e (lt_irrefl (get_or ts i []))
  ] ∙ sym (le-ltb i j (omega arith))
]

pub same_place : (ts : List Text) → ascending ts ≡ true → (i j : ℕ) → i < length ts → j < length ts →
    eq_t (get_or ts i []) (get_or ts j []) ≡ eqb i j
same_place ts h i j f g = elim (dec_lt i j) [
  | yes k ↦ eq_no (in_order ts h i j k g) ∙ sym (ne_eqb i j (λ e. omega arith))
  | no k ↦ elim (dec_lt j i) [
    | yes m ↦ no_eq (in_order ts h j i m f) ∙ sym (ne_eqb i j (λ e. omega arith))
    | no m ↦ let e : j ≡ i = omega arith in rw (e, eq_refl (get_or ts i [])) (sym (eq-eqb i i refl))
  ]
]

-- ---- one text

times_u8 : (n : ℕ) (s : List ℕ) (at : ℕ) → at + n ≤ length s → times n u8 s at ≡ got (take n (drop at s)) (at + n)
unfolding times give
times_u8 zero s at h = ap (got []) (omega arith)
times_u8 (suc n) s at h =
    bind_got _ _ (u8_in s at (omega arith))
    ∙ bind_got _ _ (times_u8 n s (at + 1) (omega arith))
    ∙ ap₂ got (rw (drop-cons s at 0 (omega arith), add-one)) (omega arith)

times_u8_short : (n : ℕ) (s : List ℕ) (at : ℕ) → at ≤ length s → length s < at + n → times n u8 s at ≡ broken
unfolding times
times_u8_short zero s at h k = absurd (omega arith)
times_u8_short (suc n) s at h k = elim (dec_lt at (length s)) [
  | yes i ↦ bind_got _ _ (u8_in s at i) ∙ bind_broken _ _ (times_u8_short n s (at + 1) (omega arith) (omega arith))
  | no i ↦ bind_broken _ _ (u8_out s at (omega arith))
]

-- the text that was read is the one in the file
pub record Told (s : List ℕ) (p : ℕ) (t : Text) (q : ℕ) : Type 0 where
  pub is_in : fits s p ≡ true
  pub is_text : t ≡ text_at s p
  pub is_next : q ≡ p + 1 + get_or s p 0

module _ (s : List ℕ) (p : ℕ) where
  text_kept : p < length s → p + 1 + get_or s p 0 ≤ length s →
      one_text s p ≡ (if all printable (text_at s p) then got (text_at s p) (p + 1 + get_or s p 0) else broken)
  unfolding one_text text_at require
  text_kept h k = bind_got _ _ (u8_in s p h) ∙ bind_got _ _ (times_u8 (get_or s p 0) s (p + 1) k)

  text_cut : p < length s → length s < p + 1 + get_or s p 0 → one_text s p ≡ broken
  unfolding one_text
  text_cut h k = bind_got _ _ (u8_in s p h) ∙ bind_broken _ _ (times_u8_short (get_or s p 0) s (p + 1) (omega arith) k)

  text_none : length s ≤ p → one_text s p ≡ broken
  unfolding one_text
  text_none h = bind_broken _ _ (u8_out s p h)

  never_both : {t : Text} {q : ℕ} → one_text s p ≡ got t q → one_text s p ≡ broken → ⊥
  never_both e f = let z : ◌≡◌ {A = ℕ} 0 1 = cc in omega arith

  pub told : {t : Text} {q : ℕ} → one_text s p ≡ got t q → Told s p t q
  told {t} {q} e = elim (dec_lt p (length s)) [
    | yes h ↦ elim (dec_lt (length s) (p + 1 + get_or s p 0)) [
      | yes k ↦ absurd (never_both e (text_cut h k))
      | no k ↦ tested h (omega arith) (case (all printable (text_at s p)))
    ]
    | no h ↦ absurd (never_both e (text_none (omega arith)))
  ]
    where
      tested : p < length s → p + 1 + get_or s p 0 ≤ length s → Case (all printable (text_at s p)) → Told s p t q
      tested h k (is_true b) = let z : got t q ≡ got (text_at s p) (p + 1 + get_or s p 0) = sym e ∙ text_kept h k ∙ rw b in
          record { is_in = fits_yes s p k; is_text = cc; is_next = cc }
      tested h k (is_false b) = absurd (never_both e (text_kept h k ∙ rw b))

-- ---- the texts of a file

-- texts read one after the other are those from that position on
texts_from_lem : (s : List ℕ) (n p : ℕ) {ts : List Text} {next : ℕ} → times n one_text s p ≡ got ts next → ts ≡ texts_from s p n
unfolding texts_from times give
texts_from_lem s zero p e = cc
texts_from_lem s (suc n) p e =
    let m = more one_text s n p e in
    let t = told s p m.is_first in
    m.both ∙ ap₂ ◌∷◌ t.is_text (texts_from_lem s n m.after m.are_others ∙ ap (λ (q : ℕ). texts_from s q n) t.is_next)

-- the place that a search for w gives, from the text at place k on
pub record Sought (w : Text) (l : List Text) (k r : ℕ) : Type 0 where
  pub index : ℕ
  pub is_in : index < length l
  pub is_place : r ≡ k + index
  pub is_text : get_or l index [] ≡ w

nothing_there : (w : Text) → mem_t w [] ≡ true → ⊥
unfolding mem_t any
nothing_there w h = not_both refl h

module _ (w : Text) (s : List ℕ) where
  sought_step : (n p k : ℕ) (t : Text) (l : List Text) → fits s p ≡ true → t ≡ text_at s p → mem_t w (t ∷ l) ≡ true →
      (mem_t w l ≡ true → Sought w l (k + 1) (place_from n (k + 1) w s (p + 1 + get_or s p 0))) →
      Sought w (t ∷ l) k (place_from (suc n) k w s p)
  unfolding mem_t any
  sought_step n p k t l f e h ih = cases (case (eq_t w (text_at s p)))
    where
      cases : Case (eq_t w (text_at s p)) → Sought w (t ∷ l) k (place_from (suc n) k w s p)
      cases (is_true b) = record {
        index = 0;
        is_in = omega arith;
        is_place =
            place_here w s p k refl (suc n) (omega arith) (ap (λ (x : Bool). x && eq_t w (text_at s p)) f ∙ b) ∙ (omega arith);
        is_text = e ∙ sym (eq_is w (text_at s p) b);
      }
      cases (is_false b) =
          let g : mem_t w l ≡ true = ap (λ (x : Bool). x || mem_t w l) (sym (ap (eq_t w) e ∙ b)) ∙ h in
          let r = ih g in
          record {
            index = suc r.index;
            is_in = omega (arith, r.is_in);
            is_place =
                place_later w s p k refl (suc n) (p + 1 + get_or s p 0) (omega arith)
                (ap (λ (x : Bool). x && eq_t w (text_at s p)) f ∙ b) refl
                ∙ place_left (k + 1) w s (p + 1 + get_or s p 0) (omega arith) ∙ r.is_place ∙ (omega arith);
            is_text =
                r.is_text;
          }

  sought : (n p k : ℕ) {l : List Text} {next : ℕ} → times n one_text s p ≡ got l next → mem_t w l ≡ true →
      Sought w l k (place_from n k w s p)
  unfolding times give
  sought zero p k {l} e h = let z : l ≡ [] = cc in absurd (nothing_there w (ap (mem_t w) (sym z) ∙ h))
  sought (suc n) p k {l} {next} e h =
      let m = more one_text s n p e in
      let t = told s p m.is_first in
      subst (λ (x : List Text). Sought w x k (place_from (suc n) k w s p)) (sym m.both)
      (sought_step n p k m.first m.others t.is_in t.is_text (ap (mem_t w) (sym m.both) ∙ h)
      (λ g. subst (λ (q : ℕ). Sought w m.others (k + 1) (place_from n (k + 1) w s q)) t.is_next
      (sought n m.after (k + 1) m.are_others g)))

-- what the section of texts says
record Section (s : List ℕ) (p : ℕ) (ts : List Text) : Type 0 where
  pub count : ℕ
  pub end : ℕ
  pub read : times count one_text s (p + 2) ≡ got ts end
  pub tested : (ascending ts && has_fixed ts) ≡ true

section : (s : List ℕ) (p : ℕ) {ts : List Text} {next : ℕ} → texts s p ≡ got ts next → Section s p ts
unfolding texts counted require
section s p {ts} {next} e = elim (dec_lt (length s) (p + 2)) [
  | yes h ↦ absurd (never (bind_broken (counted one_text) _ (bind_broken u16 _ (u16_out s p h))))
  | no h ↦ let c = get_or s p 0 + 256 * get_or s (p + 1) 0 in
      read c (bind_got u16 _ (u16_in s p (omega arith))) (times c one_text s (p + 2)) refl
]
  where
    never : texts s p ≡ broken → ⊥
    never f = let z : ◌≡◌ {A = ℕ} 0 1 = cc in omega arith

    judged : (c : ℕ) {l : List Text} {o : ℕ} → times c one_text s (p + 2) ≡ got l o → Case (ascending l && has_fixed l) →
        texts s p ≡ (if ascending l && has_fixed l then got l o else broken) → Section s p ts
    judged c {l} {o} f (is_true b) g =
        let z : got ts next ≡ got l o = sym e ∙ g ∙ rw b in
        let y : ts ≡ l = cc in
        record { count = c; end = o; read = f ∙ ap (λ (x : List Text). got x o) (sym y); tested = rw y b }
    judged c f (is_false b) g = absurd (never (g ∙ rw b))

    read : (c : ℕ) → counted one_text s p ≡ times c one_text s (p + 2) → (g : Got (List Text)) →
        times c one_text s (p + 2) ≡ g → Section s p ts
    read c d (got l o) f = judged c f (case (ascending l && has_fixed l)) (bind_got (counted one_text) _ (d ∙ f))
    read c d broken f = absurd (never (bind_broken (counted one_text) _ (d ∙ f)))

-- the section of texts stands at position 4, and the first text at position 6
module _ (s : List ℕ) {ts : List Text} {next : ℕ} (e : texts s 4 ≡ got ts next) where
  pub texts_ascend : ascending ts ≡ true
  texts_ascend = and_left (ascending ts) _ (section s 4 e).tested

  pub fixed_there : has_fixed ts ≡ true
  fixed_there = and_second (ascending ts) _ (section s 4 e).tested

  texts_count : length ts ≡ (section s 4 e).count
  texts_count = let x = section s 4 e in ap length (texts_from_lem s x.count 6 x.read) ∙ texts_many s 6 x.count

  -- a search among the texts finds the place of one that is there
  pub fixed_at : (w : Text) → mem_t w ts ≡ true → Fixed ts (place_from (length ts) 0 w s 6) w
  fixed_at w h =
      let x = section s 4 e in
      let f = sought w s x.count 6 0 x.read h in
      let z : place_from (length ts) 0 w s 6 ≡ f.index =
      ap (λ (c : ℕ). place_from c 0 w s 6) texts_count ∙ f.is_place ∙ (omega arith) in
      record { is_in = omega (arith, f.is_in); is_text = ap (λ (i : ℕ). get_or ts i []) z ∙ f.is_text }

  -- the four fixed texts are there
  pub record FixedTexts : Type 0 where
    pub on : mem_t (text "on") ts ≡ true
    pub off : mem_t (text "off") ts ≡ true
    pub unknown : mem_t (text "unknown") ts ≡ true
    pub unavailable : mem_t (text "unavailable") ts ≡ true

  pub fixed_texts : FixedTexts
  unfolding has_fixed
  fixed_texts =
      let a : (mem_t (text "on") ts && mem_t (text "off") ts && mem_t (text "unknown") ts && mem_t (text "unavailable") ts)
      ≡ true = fixed_there in
      let b = and_left (mem_t (text "on") ts && mem_t (text "off") ts && mem_t (text "unknown") ts) _ a in
      let c = and_left (mem_t (text "on") ts && mem_t (text "off") ts) _ b in
      record {
        on = and_left (mem_t (text "on") ts) _ c;
        off = and_second (mem_t (text "on") ts) _ c;
        unknown = and_second (mem_t (text "on") ts && mem_t (text "off") ts) _ b;
        unavailable = and_second (mem_t (text "on") ts && mem_t (text "off") ts && mem_t (text "unknown") ts) _ a;
      }

  pub placed_text : (k : ℕ) → k < length ts → text_at s (start_from s 6 k) ≡ get_or ts k []
  placed_text k h =
      let x = section s 4 e in
      text_at_place s x.count k 6 (omega (arith, texts_count))
      ∙ ap (λ (l : List Text). get_or l k []) (sym (texts_from_lem s x.count 6 x.read))

  -- the file is one of bytes, so a length is below 256
  pub text_short : ((i : ℕ) → get_or s i 0 < 256) → (k : ℕ) → k < length ts → length (get_or ts k []) < 256
  text_short b k h = omega (arith, ap length (placed_text k h), length_byte s (start_from s 6 k), b (start_from s 6 k))
