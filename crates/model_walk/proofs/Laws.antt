-- The laws that the proofs of walks cite.
use Rattle.std.specs.Prelude.{Some, None, if◌then◌else◌}
use Rattle.std.specs.Bool.{then_some}
use mathlib.Core.Path.{◌≡◌, refl, sym, ap, ◌∙◌}
use mathlib.Core.List.{List}
use mathlib.Core.Bool.{Bool, true, false}
use Prim.Native.Nat.{ℕ, zero, suc, ◌+◌, ◌-◌, ◌*◌, ◌≤◌, ◌<◌}
use native.Mathlib.Numerals.{sub-one}
use native.Mathlib.Decide.{dec_lt}
use native.Mathlib.Omega.{arith}
use lib.ListN.{length, get_or}
use lib.Dec.{eqb}
use borrow.Author.Tests.{lt-ltb, le-ltb, le-leb, lt-leb, ne_eqb}
use Rattle.model_spec.specs.File.{Got, got, broken, Reader, ◌>>=◌, give, u8, u16, u32}
use Rattle.model_walk.specs.Walk.{
  Num,
  Walked,
  found,
  capped,
  Walk,
  and_then,
  ◌⨾◌,
  by,
  stop,
  stay,
  noted,
  staying,
  bytes_m,
  or_zeros_m,
  times_m,
  kind_m,
  place_m,
  place?M,
  note?M,
  note_m,
  predicate_size,
  predicate_m,
  trigger_m,
  piece_m,
  simple_m,
  actions_m,
  action_m,
  counted_m,
}
use Rattle.model_walk.specs.declared.Piece.{Piece}
use Rattle.model_walk.specs.declared.Piece.TheVariants as piece

-- ---- numbers

module _ {A B : Type 0} (r : Reader A) (k : A → Reader B) {s : List ℕ} {at : ℕ} where
  pub bind_got : {a : A} {n : ℕ} → r s at ≡ got a n → (r >>= k) s at ≡ k a s n
  unfolding ◌>>=◌
  bind_got e = rw (e, ◌>>=◌)

  pub bind_broken : r s at ≡ broken → (r >>= k) s at ≡ broken
  unfolding ◌>>=◌
  bind_broken e = rw (e, ◌>>=◌)

module _ (s : List ℕ) (at : ℕ) where
  pub u8_in : at < length s → u8 s at ≡ got (get_or s at 0) (at + 1)
  unfolding u8
  u8_in h = simp (lt-ltb _ _ h)

  pub u8_out : length s ≤ at → u8 s at ≡ broken
  unfolding u8
  u8_out h = simp (le-ltb _ _ h)

pub u16_in : (s : List ℕ) (at : ℕ) → at + 2 ≤ length s → u16 s at ≡ got (get_or s at 0 + 256 * get_or s (at + 1) 0) (at + 2)
unfolding u16 give
u16_in s at h =
    bind_got _ _ (u8_in s at (omega arith))
    ∙ bind_got _ _ (u8_in s (at + 1) (omega arith))
    ∙ ap (got (get_or s at 0 + 256 * get_or s (at + 1) 0)) (omega arith)

pub u16_out : (s : List ℕ) (at : ℕ) → length s < at + 2 → u16 s at ≡ broken
unfolding u16
u16_out s at h = elim (dec_lt at (length s)) [
  | yes i ↦ bind_got _ _ (u8_in s at i) ∙ bind_broken _ _ (u8_out s (at + 1) (omega arith))
  | no i ↦ bind_broken _ _ (u8_out s at (omega arith))
]

pub u32_in : (s : List ℕ) (at : ℕ) → at + 4 ≤ length s →
    u32 s at ≡ got (get_or s at 0 + 256 * get_or s (at + 1) 0 + 65536 * (get_or s (at + 2) 0 + 256 * get_or s (at + 3) 0)) (at + 4)
unfolding u32 give
u32_in s at h =
    bind_got _ _ (u16_in s at (omega arith))
    ∙ bind_got _ _ (u16_in s (at + 2) (omega arith))
    ∙ rw (assoc at 2 1, assoc at 2 2)
  where
    assoc : (a b c : ℕ) → a + b + c ≡ a + (b + c)
    assoc a b c = omega arith

pub u32_out : (s : List ℕ) (at : ℕ) → length s < at + 4 → u32 s at ≡ broken
unfolding u32
u32_out s at h = elim (dec_lt (at + 1) (length s)) [
  | yes i ↦ bind_got _ _ (u16_in s at (omega arith)) ∙ bind_broken _ _ (u16_out s (at + 2) (omega arith))
  | no i ↦ bind_broken _ _ (u16_out s at (omega arith))
]

-- what a number's answer says of its reader
pub is_got : {x : Num} {g : Got ℕ} {v q : ℕ} → found x ≡ g → x ≡ Some (v, q) → g ≡ got v q
unfolding found
is_got e h = sym e ∙ ap found h

pub is_broken : {x : Num} {g : Got ℕ} → found x ≡ g → x ≡ None → g ≡ broken
unfolding found
is_broken e h = sym e ∙ ap found h

pub says_got : {v w q : ℕ} {g : Got ℕ} → g ≡ got w q → v ≡ w → found (Some (v, q)) ≡ g
unfolding found
says_got {q = q} e h = ap (λ x. got x q) h ∙ sym e

pub says_broken : {g : Got ℕ} → g ≡ broken → found None ≡ g
unfolding found
says_broken e = sym e

-- ---- tests

pub yes_if : {A : Type 0} {b : Bool} (x y : A) → b ≡ true → (if b then x else y) ≡ x
yes_if x y h = rw h

pub no_if : {A : Type 0} {b : Bool} (x y : A) → b ≡ false → (if b then x else y) ≡ y
no_if x y h = rw h

-- ---- walks

module _ (s : List ℕ) (p n : ℕ) where
  -- the code's answer x of the first number, and its case
  module _ (r : Reader ℕ) (f : ℕ → Walk) {x : Num} (e : found x ≡ r s p) where
    pub by_is : {v q : ℕ} → x ≡ Some (v, q) → by r f s p n ≡ f v s q n
    unfolding by
    by_is h = rw (is_got e h, by)

    pub by_broken : x ≡ None → by r f s p n ≡ None
    unfolding by
    by_broken h = rw (is_broken e h, by)

  -- the code's answer x of the first walk, and its case
  module _ (k l : Walk) {x : Walked} (e : x ≡ k s p n) where
    pub to : {q m : ℕ} → x ≡ Some (q, m) → (k ⨾ l) s p n ≡ l s q m
    unfolding ◌⨾◌ and_then
    to h = rw (sym e ∙ h, and_then)

    pub broke : x ≡ None → (k ⨾ l) s p n ≡ None
    unfolding ◌⨾◌ and_then
    broke h = rw (sym e ∙ h, and_then)

  pub stopped : stop s p n ≡ None
  unfolding stop
  stopped = refl

  pub stayed : stay s p n ≡ Some (p, n)
  unfolding stay
  stayed = refl

  pub noted_is : noted s p n ≡ Some (p, capped (n + 1))
  unfolding noted
  noted_is = refl

  pub stay_if : {b : Bool} → b ≡ true → staying b s p n ≡ Some (p, n)
  unfolding staying stay
  stay_if h = rw h

  pub stop_if : {b : Bool} → b ≡ false → staying b s p n ≡ None
  unfolding staying stop
  stop_if h = rw h

  pub bytes_in : (w : ℕ) → p + w ≤ length s → bytes_m w s p n ≡ Some (p + w, n)
  unfolding bytes_m
  bytes_in w h = rw (le-leb (p + w) (length s) h)

  pub bytes_out : (w : ℕ) → length s < p + w → bytes_m w s p n ≡ None
  unfolding bytes_m
  bytes_out w h = rw (lt-leb (p + w) (length s) h)

  -- the code's test whether to stay
  pub staying_is : (b : Bool) → then_some b (p, n) ≡ staying b s p n
  unfolding staying stay stop
  staying_is true = refl
  staying_is false = refl

  -- one test or the other
  pub first_stays : {b t : Bool} (k : Walk) → t ≡ b → b ≡ true → then_some t (p, n) ≡ (if b then stay else k) s p n
  unfolding stay
  first_stays k e h = rw (e, h)

  pub other_stays : {b c t : Bool} → t ≡ c → b ≡ false → then_some t (p, n) ≡ (if b then stay else staying c) s p n
  other_stays {c = c} e h = rw (e, h) (staying_is c)

  pub noted_if : (b : Bool) {m : ℕ} → m ≡ capped (n + 1) → then_some b (p, m) ≡ (if b then noted else stop) s p n
  unfolding noted stop
  noted_if true e = ap (λ (x : ℕ). Some (p, x)) e
  noted_if false e = refl

module _ (s : List ℕ) (p n : ℕ) (k : Walk) where
  pub zeros_before : p < length s → or_zeros_m k s p n ≡ k s p n
  unfolding or_zeros_m
  zeros_before h = rw (lt-ltb p (length s) h)

  pub zeros_at_end : length s ≤ p → or_zeros_m k s p n ≡ Some (p, n)
  unfolding or_zeros_m
  zeros_at_end h = rw (le-ltb p (length s) h)

pub to_same : {p n m : ℕ} → m ≡ n → ◌≡◌ {A = Walked} (Some (p, n)) (Some (p, m))
to_same {p} e = ap (λ (x : ℕ). Some (p, x)) (sym e)

pub same_to : {p n q m : ℕ} → ◌≡◌ {A = Walked} (Some (p, n)) (Some (q, m)) → (p ≡ q) × (n ≡ m)
same_to {p} {n} {q} {m} e =
    let h : ◌≡◌ {A = ℕ × ℕ} (p, n) (q, m) = cc in (ap (λ (x : ℕ × ℕ). x.0) h, ap (λ (x : ℕ × ℕ). x.1) h)

-- a test, and then a walk
pub stay_then : {b : Bool} (l : Walk) (s : List ℕ) (p n : ℕ) → b ≡ true → (staying b ⨾ l) s p n ≡ l s p n
unfolding staying stay ◌⨾◌ and_then
stay_then l s p n h = rw h

pub stop_then : {b : Bool} (l : Walk) (s : List ℕ) (p n : ℕ) → b ≡ false → (staying b ⨾ l) s p n ≡ None
unfolding staying stop ◌⨾◌ and_then
stop_then l s p n h = rw h

-- ---- sizes of predicates

pub size_of_state : (k : ℕ) → k ≡ 0 → predicate_size k ≡ 5
unfolding predicate_size
size_of_state k e = rw e

pub size_of_note : (k : ℕ) → k ≡ 1 → predicate_size k ≡ 3
unfolding predicate_size
size_of_note k e = rw e

pub size_of_other : (k : ℕ) → (k ≡ 0 → ⊥) → (k ≡ 1 → ⊥) → predicate_size k ≡ 10
unfolding predicate_size
size_of_other k f g = rw (ne_eqb k 0 f, ne_eqb k 1 g)

pub size_some : (w k : ℕ) → w ≡ predicate_size k → 1 ≤ w
unfolding predicate_size
size_some w k e = cases (eqb k 0) (eqb k 1) e
  where
    cases : (a b : Bool) → w ≡ (if a then 5 else if b then 3 else 10) → 1 ≤ w
    cases true b h = omega (arith, h)
    cases false true h = omega (arith, h)
    cases false false h = omega (arith, h)

-- a window's bytes behind its kind
pub window_bytes : (w k : ℕ) (s : List ℕ) (p n : ℕ) → w ≡ predicate_size k → k ≡ 2 → bytes_m (w - 1) s p n ≡ bytes_m 9 s p n
unfolding predicate_size
window_bytes w k s p n e h = ap (λ (x : ℕ). bytes_m (x - 1) s p n) (e ∙ ap predicate_size h)

-- the test of a choice between two walks
pub yes_walk : {b : Bool} (k l : Walk) (s : List ℕ) (p n : ℕ) → b ≡ true → (if b then k else l) s p n ≡ k s p n
yes_walk k l s p n h = rw h

pub no_walk : {b : Bool} (k l : Walk) (s : List ℕ) (p n : ℕ) → b ≡ false → (if b then k else l) s p n ≡ l s p n
no_walk k l s p n h = rw h

-- ---- order of walks

and_then_assoc : (x : Walked) (f g : ℕ → ℕ → Walked) → and_then (and_then x f) g ≡ and_then x (λ p n. and_then (f p n) g)
unfolding and_then
and_then_assoc (Some (p, n)) f g = refl
and_then_assoc None f g = refl

by_and_then : (g : Got ℕ) (f : ℕ → ℕ → Walked) (h : ℕ → ℕ → Walked) →
    and_then (elim g [ got x q ↦ f x q | broken ↦ None ]) h
    ≡ elim g [ got x q ↦ and_then (f x q) h | broken ↦ None ]
unfolding and_then
by_and_then (got x q) f h = refl
by_and_then broken f h = refl

module _ (s : List ℕ) (p n : ℕ) where
  pub assoc : (a b c : Walk) → ((a ⨾ b) ⨾ c) s p n ≡ (a ⨾ (b ⨾ c)) s p n
  unfolding ◌⨾◌
  assoc a b c = and_then_assoc (a s p n) (b s) (c s)

  pub by_then : (r : Reader ℕ) (f : ℕ → Walk) (l : Walk) → (by r f ⨾ l) s p n ≡ by r (λ x. f x ⨾ l) s p n
  unfolding ◌⨾◌ by
  by_then r f l = by_and_then (r s p) (λ x q. f x s q n) (l s)

-- ---- lists

module _ (k : Walk) (s : List ℕ) (p n : ℕ) where
  pub times_more : (i : ℕ) → 0 < i → times_m i k s p n ≡ (k ⨾ times_m (i - 1) k) s p n
  unfolding times_m
  times_more zero h = absurd (omega arith)
  times_more (suc i) h = rw (sub-one (suc i))

  pub times_none : (i : ℕ) → i ≤ 0 → times_m i k s p n ≡ Some (p, n)
  unfolding times_m stay
  times_none zero h = refl
  times_none (suc i) h = absurd (omega arith)

pub times_then : (k l : Walk) (s : List ℕ) (p n : ℕ) (i : ℕ) → 0 < i →
    (times_m i k ⨾ l) s p n ≡ (k ⨾ (times_m (i - 1) k ⨾ l)) s p n
unfolding times_m
times_then k l s p n zero h = absurd (omega arith)
times_then k l s p n (suc i) h = rw (sub-one (suc i)) (assoc s p n k (times_m i k) l)

pub none_then : (k l : Walk) (s : List ℕ) (p n : ℕ) (i : ℕ) → i ≤ 0 → (times_m i k ⨾ l) s p n ≡ l s p n
unfolding times_m ◌⨾◌ stay and_then
none_then k l s p n zero h = refl
none_then k l s p n (suc i) h = absurd (omega arith)

pub actions_none : (ts : ℕ) (s : List ℕ) (p n : ℕ) → actions_m ts 0 s p n ≡ None
unfolding actions_m stop
actions_none ts s p n = refl

pub actions_more : (ts left : ℕ) (s : List ℕ) (p n : ℕ) → (left ≡ 0 → ⊥) →
    actions_m ts left s p n ≡ counted_m (action_m ts (actions_m ts (left - 1))) s p n
unfolding actions_m
actions_more ts zero s p n h = absurd (h refl)
actions_more ts (suc left) s p n h = rw (sub-one (suc left))

pub capped_low : (n : ℕ) → n < 64 → capped (n + 1) ≡ n + 1
unfolding capped
capped_low n h = no_if _ _ (le-ltb 64 (n + 1) (omega arith))

pub capped_high : (n : ℕ) → 64 ≤ n → capped (n + 1) ≡ 65
unfolding capped
capped_high n h = yes_if _ _ (lt-ltb 64 (n + 1) (omega arith))

-- ---- what the shut walks are

module _ (ts : ℕ) (s : List ℕ) (p n : ℕ) where
  pub trigger_is : trigger_m ts s p n ≡ (place_m ts ⨾ place?M ts ⨾ place?M ts ⨾ bytes_m 8 ⨾ note?M ts) s p n
  unfolding trigger_m
  trigger_is = refl

  -- what stands behind a predicate's kind
  abbrev pub of_kind : ℕ → Walk
  of_kind k =
      if eqb k 0 then place_m ts ⨾ place_m ts else if eqb k 1 then note_m ts else if eqb k 2 then bytes_m 9 else stop

  pub predicate_is : predicate_m ts s p n ≡ by u8 of_kind s p n
  unfolding predicate_m
  predicate_is = refl

  module _ {k : ℕ} where
    pub kind_0 : k ≡ 0 → of_kind k s p n ≡ (place_m ts ⨾ place_m ts) s p n
    kind_0 e = rw e

    pub kind_1 : k ≡ 1 → of_kind k s p n ≡ note_m ts s p n
    kind_1 e = rw e

    pub kind_2 : k ≡ 2 → of_kind k s p n ≡ bytes_m 9 s p n
    kind_2 e = rw e

    pub kind_else : (k ≡ 0 → ⊥) → (k ≡ 1 → ⊥) → (k ≡ 2 → ⊥) → of_kind k s p n ≡ None
    unfolding stop
    kind_else a b c = rw (ne_eqb _ _ a, ne_eqb _ _ b, ne_eqb _ _ c)

  -- an effect's kind
  module _ {k : ℕ} where
    pub simple_0 : k ≡ 0 → simple_m ts k s p n ≡ (place_m ts ⨾ place_m ts) s p n
    unfolding simple_m
    simple_0 e = rw e

    pub simple_1 : k ≡ 1 → simple_m ts k s p n ≡ place_m ts s p n
    unfolding simple_m
    simple_1 e = rw e

    pub simple_2 : k ≡ 2 → simple_m ts k s p n ≡ bytes_m 4 s p n
    unfolding simple_m
    simple_2 e = rw e

    pub simple_3 : k ≡ 3 → simple_m ts k s p n ≡ predicate_m ts s p n
    unfolding simple_m
    simple_3 e = rw e

    pub simple_5 : k ≡ 5 → simple_m ts k s p n ≡ (trigger_m ts ⨾ bytes_m 4 ⨾ kind_m 2) s p n
    unfolding simple_m
    simple_5 e = rw e

    pub simple_6 : k ≡ 6 → simple_m ts k s p n ≡ note_m ts s p n
    unfolding simple_m
    simple_6 e = rw e

    pub simple_else : (k ≡ 0 → ⊥) → (k ≡ 1 → ⊥) → (k ≡ 2 → ⊥) → (k ≡ 3 → ⊥) → (k ≡ 5 → ⊥) → (k ≡ 6 → ⊥) →
        simple_m ts k s p n ≡ None
    unfolding simple_m stop
    simple_else a b c d e f = rw (ne_eqb _ _ a, ne_eqb _ _ b, ne_eqb _ _ c, ne_eqb _ _ d, ne_eqb _ _ e, ne_eqb _ _ f)

  -- a piece, by its name
  module _ {x : Piece} where
    pub piece_place : x ≡ piece.Place → piece_m ts x s p n ≡ place_m ts s p n
    unfolding piece_m
    piece_place e = rw e

    pub piece_note : x ≡ piece.Note → piece_m ts x s p n ≡ note_m ts s p n
    unfolding piece_m
    piece_note e = rw e

    pub piece_predicate : x ≡ piece.Predicate → piece_m ts x s p n ≡ predicate_m ts s p n
    unfolding piece_m
    piece_predicate e = rw e

    pub piece_trigger : x ≡ piece.Trigger → piece_m ts x s p n ≡ trigger_m ts s p n
    unfolding piece_m
    piece_trigger e = rw e
