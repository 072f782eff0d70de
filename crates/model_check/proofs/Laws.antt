-- The laws that the proofs of checks cite.
use Rattle.std.specs.Prelude.{Some, None, if◌then◌else◌}
use mathlib.Core.Path.{◌≡◌, refl, sym, ap, ◌∙◌}
use mathlib.Core.List.{List}
use mathlib.Core.Bool.{Bool, true, false}
use Prim.Native.Nat.{ℕ, zero, suc, ◌+◌, ◌-◌, ◌≤◌, ◌<◌}
use native.Mathlib.Numerals.{sub-one}
use native.Mathlib.Omega.{arith}
use lib.ListN.{length, get_or}
use lib.Dec.{ltb, leb, eqb}
use borrow.Author.Tests.{le-leb, lt-leb, eq-eqb, ne_eqb}
use Rattle.model_spec.specs.File.{Reader, u8, u16, u32}
use Rattle.model_spec.specs.Validate.{bad_window}
use Rattle.model_walk.specs.Walk.{Num, found, predicate_size}
use Rattle.model_walk.proofs.Laws.{is_got, is_broken, u16_out}
use Rattle.model_check.specs.declared.Checked.{Checked}
use Rattle.model_check.specs.declared.Checked.TheVariants as checked
use Rattle.model_check.specs.Checks.{
  Check,
  and_then,
  ◌⨾◌,
  by,
  stay,
  refuse,
  refuse_if,
  skip_m,
  times_m,
  place_is,
  among,
  listed_at,
  first_from,
  Declaration,
  entity_value_m,
  value_m,
  pair_m,
  window_m,
  predicate_m,
  predicates_m,
  declared_m,
  optional_m,
  trigger_of_m,
  trigger_m,
  triggers_m,
}

-- ---- one check after the other

module _ (s : List ℕ) (p n : ℕ) where
  -- the code's answer x of the first number, and its case
  module _ (r : Reader ℕ) (f : ℕ → Check) {x : Num} (e : found x ≡ r s p) where
    pub by_is : {v q : ℕ} → x ≡ Some (v, q) → by r f s p n ≡ f v s q n
    unfolding by
    by_is h = rw (is_got e h, by)

    pub by_broken : x ≡ None → by r f s p n ≡ checked.Refused 30
    unfolding by
    by_broken h = rw (is_broken e h, by)

  -- the code's answer x of the first check, and its case
  module _ (k l : Check) {x : Checked} (e : x ≡ k s p n) where
    pub to : {q m : ℕ} → x ≡ checked.To q m → (k ⨾ l) s p n ≡ l s q m
    unfolding ◌⨾◌ and_then
    to h = rw (sym e ∙ h, and_then)

    pub refused : {i : ℕ} → x ≡ checked.Refused i → (k ⨾ l) s p n ≡ x
    unfolding ◌⨾◌ and_then
    refused h = rw (sym e ∙ h, and_then) (sym h)

  pub stayed : stay s p n ≡ checked.To p n
  unfolding stay
  stayed = refl

  pub refuse_yes : (k : ℕ) {b : Bool} → b ≡ true → refuse_if k b s p n ≡ checked.Refused k
  unfolding refuse_if refuse
  refuse_yes k h = rw h

  pub refuse_no : (k : ℕ) {b : Bool} → b ≡ false → refuse_if k b s p n ≡ checked.To p n
  unfolding refuse_if stay
  refuse_no k h = rw h

  pub skip_in : (w : ℕ) → p + w ≤ length s → skip_m w s p n ≡ checked.To (p + w) n
  unfolding skip_m
  skip_in w h = rw (le-leb (p + w) (length s) h)

  pub skip_out : (w : ℕ) → length s < p + w → skip_m w s p n ≡ checked.Refused 30
  unfolding skip_m
  skip_out w h = rw (lt-leb (p + w) (length s) h)

-- the test of a choice between two checks
pub yes_check : {b : Bool} (k l : Check) (s : List ℕ) (p n : ℕ) → b ≡ true → (if b then k else l) s p n ≡ k s p n
yes_check k l s p n h = rw h

pub no_check : {b : Bool} (k l : Check) (s : List ℕ) (p n : ℕ) → b ≡ false → (if b then k else l) s p n ≡ l s p n
no_check k l s p n h = rw h

-- ---- lists

module _ (k : Check) (s : List ℕ) (p n : ℕ) where
  pub times_more : (i : ℕ) → 0 < i → times_m i k s p n ≡ (k ⨾ times_m (i - 1) k) s p n
  unfolding times_m
  times_more zero h = absurd (omega arith)
  times_more (suc i) h = rw (sub-one (suc i))

  pub times_none : (i : ℕ) → i ≤ 0 → times_m i k s p n ≡ checked.To p n
  unfolding times_m stay
  times_none zero h = refl
  times_none (suc i) h = absurd (omega arith)

-- ---- places

module _ (s : List ℕ) (p x : ℕ) {a : Num} (e : found a ≡ u16 s p) where
  pub place_got : {y q : ℕ} → a ≡ Some (y, q) → place_is s p x ≡ eqb y x
  unfolding place_is
  place_got h = rw (is_got e h, place_is)

  pub place_broken : a ≡ None → place_is s p x ≡ false
  unfolding place_is
  place_broken h = rw (is_broken e h, place_is)

  pub listed_got : {c q : ℕ} → a ≡ Some (c, q) → listed_at s p x ≡ among c s q x
  unfolding listed_at
  listed_got h = rw (is_got e h, listed_at)

  pub listed_broken : a ≡ None → listed_at s p x ≡ false
  unfolding listed_at
  listed_broken h = rw (is_broken e h, listed_at)

  pub among_here : (left : ℕ) {y q : ℕ} → 0 < left → a ≡ Some (y, q) → y ≡ x → among left s p x ≡ true
  unfolding among
  among_here zero o h w = absurd (omega arith)
  among_here (suc left) {y} o h w = rw (is_got e h, among) (rw (eq-eqb y x w, among))

  pub among_later : (left : ℕ) {y q : ℕ} → 0 < left → a ≡ Some (y, q) → (y ≡ x → ⊥) →
      among left s p x ≡ among (left - 1) s q x
  unfolding among
  among_later zero o h w = absurd (omega arith)
  among_later (suc left) {y} o h w = rw (sub-one (suc left)) (rw (is_got e h, among) (rw (ne_eqb y x w, among)))

  pub among_broken : (left : ℕ) → 0 < left → a ≡ None → among left s p x ≡ false
  unfolding among
  among_broken zero o h = absurd (omega arith)
  among_broken (suc left) o h = rw (is_broken e h, among)

pub among_end : (s : List ℕ) (p x left : ℕ) → left ≤ 0 → among left s p x ≡ false
unfolding among
among_end s p x zero h = refl
among_end s p x (suc left) h = absurd (omega arith)

pub listed_out : (s : List ℕ) (p x : ℕ) → length s ≤ p → listed_at s (p + 2) x ≡ false
unfolding listed_at
listed_out s p x h = rw (u16_out s (p + 2) (omega arith), listed_at)

module _ (starts : List ℕ) (x : ℕ) (s : List ℕ) where
  pub first_here : (left i : ℕ) → 0 < left → place_is s (get_or starts i 0) x ≡ true → first_from starts x s left i ≡ i
  unfolding first_from
  first_here zero i o h = absurd (omega arith)
  first_here (suc left) i o h = rw (h, first_from)

  pub first_later : (left i : ℕ) → 0 < left → place_is s (get_or starts i 0) x ≡ false →
      first_from starts x s left i ≡ first_from starts x s (left - 1) (i + 1)
  unfolding first_from
  first_later zero i o h = absurd (omega arith)
  first_later (suc left) i o h = rw (sub-one (suc left)) (rw (h, first_from))

  pub first_same : {k m : ℕ} (i : ℕ) → k ≡ m → first_from starts x s k i ≡ first_from starts x s m i
  first_same i e = ap (λ (k : ℕ). first_from starts x s k i) e

  pub first_end : (left i : ℕ) → left ≤ 0 → first_from starts x s left i ≡ i
  unfolding first_from
  first_end zero i h = refl
  first_end (suc left) i h = absurd (omega arith)

-- ---- windows

module _ (d b e : ℕ) where
  pub bad_1 : b ≡ e → bad_window d b e ≡ true
  unfolding bad_window
  bad_1 h = rw (eq-eqb b e h)

  module _ (h : b ≡ e → ⊥) where
    pub bad_2 : 86399 < b → bad_window d b e ≡ true
    unfolding bad_window
    bad_2 k = rw (ne_eqb b e h) (rw (le-leb 86400 b (omega arith)))

    module _ (k : b ≤ 86399) where
      pub bad_3 : 86399 < e → bad_window d b e ≡ true
      unfolding bad_window
      bad_3 l = rw (ne_eqb b e h) (rw (lt-leb 86400 b (omega arith)) (rw (le-leb 86400 e (omega arith))))

      module _ (l : e ≤ 86399) where
        pub bad_4 : d ≡ 0 → bad_window d b e ≡ true
        unfolding bad_window
        bad_4 z =
            rw (ne_eqb b e h)
            (rw (lt-leb 86400 b (omega arith)) (rw (lt-leb 86400 e (omega arith)) (rw (eq-eqb d 0 z))))

        pub bad_5 : (d ≡ 0 → ⊥) → bad_window d b e ≡ ltb 127 d
        unfolding bad_window
        bad_5 z =
            rw (ne_eqb b e h)
            (rw (lt-leb 86400 b (omega arith)) (rw (lt-leb 86400 e (omega arith)) (rw (ne_eqb d 0 z))))

pub window_is : (s : List ℕ) (p n : ℕ)
    → window_m s p n ≡ by u8 (λ k. by u32 (λ b. by u32 (λ e. refuse_if 50 (bad_window k b e)))) s p n
unfolding window_m
window_is s p n = refl

pub refused_is : (s : List ℕ) (p n k : ℕ) → refuse k s p n ≡ checked.Refused k
unfolding refuse
refused_is s p n k = refl

-- ---- what the shut checks are

-- a predicate of the kind k has w bytes, the kind itself counted
pub skip_size : (w k : ℕ) (s : List ℕ) (p n : ℕ) → w ≡ predicate_size k →
    skip_m (w - 1) s p n ≡ skip_m (predicate_size k - 1) s p n
skip_size w k s p n e = ap (λ (x : ℕ). skip_m (x - 1) s p n) e

module _ (d : Declaration) (s : List ℕ) (p n : ℕ) where
  -- a value of the i-th entity, by the tests on the way
  module _ (i v : ℕ) where
    pub value_7 : d.count ≤ i → entity_value_m d i v s p n ≡ checked.Refused 7
    unfolding entity_value_m
    value_7 h = rw (le-leb d.count i h)

    module _ (h : i < d.count) where
      pub value_unknown : v ≡ d.unknown → entity_value_m d i v s p n ≡ checked.To p n
      unfolding entity_value_m
      value_unknown a = rw (lt-leb d.count i h) (rw (eq-eqb v d.unknown a))

      module _ (a : v ≡ d.unknown → ⊥) where
        pub value_unavailable : v ≡ d.unavailable → entity_value_m d i v s p n ≡ checked.To p n
        unfolding entity_value_m
        value_unavailable b = rw (lt-leb d.count i h) (rw (ne_eqb v d.unknown a) (rw (eq-eqb v d.unavailable b)))

        module _ (b : v ≡ d.unavailable → ⊥) where
          pub value_listed : listed_at s (get_or d.starts i 0 + 2) v ≡ true → entity_value_m d i v s p n ≡ checked.To p n
          unfolding entity_value_m
          value_listed c =
              rw (lt-leb d.count i h) (rw (ne_eqb v d.unknown a) (rw (ne_eqb v d.unavailable b) (rw c)))

          pub value_8 : listed_at s (get_or d.starts i 0 + 2) v ≡ false → entity_value_m d i v s p n ≡ checked.Refused 8
          unfolding entity_value_m
          value_8 c = rw (lt-leb d.count i h) (rw (ne_eqb v d.unknown a) (rw (ne_eqb v d.unavailable b) (rw c)))

  pub value_is : (x v i : ℕ) → i ≡ first_from d.starts x s d.count 0 → value_m d x v s p n ≡ entity_value_m d i v s p n
  unfolding value_m
  value_is x v i e = ap (λ (j : ℕ). entity_value_m d j v s p n) (sym e)

  pub pair_is : pair_m d s p n ≡ by u16 (λ x. by u16 (λ v. value_m d x v)) s p n
  unfolding pair_m
  pair_is = refl

  pub predicate_is : (banned : ℕ) → predicate_m d banned s p n ≡ by u8 (λ k. if eqb k 0 then pair_m d
      else if eqb k 1 then skip_m (predicate_size k - 1) else if eqb banned 0 then window_m else refuse banned) s p n
  unfolding predicate_m
  predicate_is banned = refl

  pub predicates_is : (banned : ℕ) → predicates_m d banned s p n ≡ by u16 (λ c. times_m c (predicate_m d banned)) s p n
  unfolding predicates_m
  predicates_is banned = refl

  pub declared_no : (x i : ℕ) → i ≡ first_from d.starts x s d.count 0 → d.count ≤ i →
      declared_m d x s p n ≡ checked.Refused 15
  unfolding declared_m
  declared_no x i e h = refuse_yes s p n 15 (ap (leb d.count) (sym e) ∙ le-leb d.count i h)

  pub declared_yes : (x i : ℕ) → i ≡ first_from d.starts x s d.count 0 → i < d.count →
      declared_m d x s p n ≡ checked.To p n
  unfolding declared_m
  declared_yes x i e h = refuse_no s p n 15 (ap (leb d.count) (sym e) ∙ lt-leb d.count i h)

  pub optional_none : (x v : ℕ) → v ≡ 65535 → optional_m d x v s p n ≡ checked.To p n
  unfolding optional_m stay
  optional_none x v h = rw (eq-eqb v 65535 h)

  pub optional_some : (x v : ℕ) → (v ≡ 65535 → ⊥) → optional_m d x v s p n ≡ value_m d x v s p n
  unfolding optional_m
  optional_some x v h = rw (ne_eqb v 65535 h)

  pub trigger_of_is : (x f t : ℕ) → trigger_of_m d x f t s p n ≡ (declared_m d x ⨾ optional_m d x f ⨾ optional_m d x t) s p n
  unfolding trigger_of_m
  trigger_of_is x f t = refl

  pub trigger_is : trigger_m d s p n ≡ by u16 (λ x. by u16
      (λ f. by u16 (λ t. skip_m 8 ⨾ by u16 (λ m. if eqb m 65535 then trigger_of_m d x f t else stay)))) s p n
  unfolding trigger_m
  trigger_is = refl

  pub triggers_is : (c : ℕ) → triggers_m d c s p n ≡ times_m c (trigger_m d) s p n
  unfolding triggers_m
  triggers_is c = refl
