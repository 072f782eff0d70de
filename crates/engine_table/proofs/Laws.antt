-- The laws that the proofs of this crate's functions cite.
use Rattle.std.specs.Prelude.{Some, None, if◌then◌else◌}
use mathlib.Core.Path.{◌≡◌, sym, ap, ◌∙◌}
use mathlib.Core.List.{List}
use Prim.Native.Nat.{ℕ, ◌+◌, ◌-◌, ◌*◌, ◌/◌, ◌%◌, ◌≤◌, ◌<◌}
use native.Mathlib.Omega.{arith}
use native.Mathlib.Decide.{dec_lt}
use lib.ListN.{length, get_or, set}
use lib.Dec.{ltb}
use lib.Seq.{get_or-set_same, get_or-set_other}
use borrow.Author.Tests.{lt-ltb, le-ltb, ne_eqb}
use Rattle.texts.specs.Texts.{text}
use Rattle.model_walk.specs.declared.Piece.TheVariants as piece
use Rattle.model_walk.specs.Walk.{Walked, pieces_m, actions_m}
use Rattle.model_order.specs.Order.{place_from}
use Rattle.model_index.specs.declared.Index.{Index}
use Rattle.engine_fields.specs.Fields.{two, four, cap}
use Rattle.engine_table.specs.Table.{
  end_of,
  stale_at,
  conditions_at,
  actions_at,
  source_at,
  rule_word,
  count_word,
  fixed_word,
  start_word,
  head_word,
  part_word,
  table_word,
  Headed,
}

pub end_to : {w : Walked} (at : ℕ) {p n : ℕ} → w ≡ Some (p, n) → p ≡ end_of w at
unfolding end_of
end_to at e = sym (ap (λ (w : Walked). end_of w at) e)

pub end_broken : {w : Walked} (at : ℕ) → w ≡ None → at ≡ end_of w at
unfolding end_of
end_broken at e = sym (ap (λ (w : Walked). end_of w at) e)

module _ (s : List ℕ) (p : ℕ) where
  pub stale_is : {many r : ℕ} → many ≡ two s (p + 2) → r ≡ four s (p + 7 + 2 * many) → r ≡ stale_at s p
  unfolding stale_at
  stale_is e f = f ∙ ap (λ (n : ℕ). four s (p + 7 + 2 * n)) e

  pub conditions_are : {many : ℕ} → many ≡ two s (p + 7) → p + 9 + 16 * many ≡ conditions_at s p
  unfolding conditions_at
  conditions_are e = ap (λ (n : ℕ). p + 9 + 16 * n) e

  pub actions_are : (ts : ℕ) {c r : ℕ} {w : Walked} → c ≡ conditions_at s p → w ≡ pieces_m ts piece.Predicate s c 0 →
      r ≡ end_of w c → r ≡ actions_at ts s p
  unfolding actions_at
  actions_are ts {c} {r} {w} e f g = g ∙ ap (λ (y : Walked). end_of y c) f
      ∙ ap (λ (y : ℕ). end_of (pieces_m ts piece.Predicate s y 0) y) e

  pub source_is : (ts : ℕ) {a r : ℕ} {w : Walked} → a ≡ actions_at ts s p → w ≡ actions_m ts 18 s a 0 → r ≡ end_of w a →
      r ≡ source_at ts s p
  unfolding source_at
  source_is ts {a} {r} {w} e f g = g ∙ ap (λ (y : Walked). end_of y a) f ∙ ap (λ (y : ℕ). end_of (actions_m ts 18 s y 0) y) e

pub cap_far : (q p : ℕ) → p ≡ q → 4294967287 < p → 4294967295 ≡ cap (q + 8)
unfolding cap
cap_far q p e h = elim (dec_lt 4294967295 (q + 8)) [
  | yes g ↦ rw (lt-ltb 4294967295 (q + 8) g)
  | no g ↦ rw (le-ltb 4294967295 (q + 8) (omega arith)) (omega arith)
]

-- the words of an automation, by number
module _ (ts : ℕ) (s : List ℕ) (p : ℕ) (k : ℕ) where
  pub word_0 : k ≡ 0 → rule_word ts s p k ≡ two s p
  unfolding rule_word
  word_0 e = rw e

  pub word_1 : k ≡ 1 → rule_word ts s p k ≡ get_or s (p + 2) 0
  unfolding rule_word
  word_1 e = rw e

  pub word_2 : k ≡ 2 → rule_word ts s p k ≡ four s (p + 3)
  unfolding rule_word
  word_2 e = rw e

  pub word_3 : k ≡ 3 → rule_word ts s p k ≡ cap (p + 7)
  unfolding rule_word
  word_3 e = rw e

  pub word_4 : k ≡ 4 → rule_word ts s p k ≡ cap (conditions_at s p)
  unfolding rule_word
  word_4 e = rw e

  pub word_5 : k ≡ 5 → rule_word ts s p k ≡ cap (actions_at ts s p)
  unfolding rule_word
  word_5 e = rw e

  pub word_6 : k ≡ 6 → rule_word ts s p k ≡ cap (source_at ts s p)
  unfolding rule_word
  word_6 e = rw e

  pub word_else : (k ≡ 0 → ⊥) → (k ≡ 1 → ⊥) → (k ≡ 2 → ⊥) → (k ≡ 3 → ⊥) → (k ≡ 4 → ⊥) → (k ≡ 5 → ⊥) → (k ≡ 6 → ⊥) →
      rule_word ts s p k ≡ cap (source_at ts s p + 8)
  unfolding rule_word
  word_else a b c d e f g = rw (
    ne_eqb _ _ a,
    ne_eqb _ _ b,
    ne_eqb _ _ c,
    ne_eqb _ _ d,
    ne_eqb _ _ e,
    ne_eqb _ _ f,
    ne_eqb _ _ g,
  )

module _ (i : Index) (k : ℕ) where
  pub count_0 : k ≡ 0 → count_word i k ≡ i.entities.count
  unfolding count_word
  count_0 e = rw e

  pub count_1 : k ≡ 1 → count_word i k ≡ i.rules.count
  unfolding count_word
  count_1 e = rw e

  pub count_8 : k ≡ 8 → count_word i k ≡ i.events.count
  unfolding count_word
  count_8 e = rw e

  pub count_9 : k ≡ 9 → count_word i k ≡ i.texts.count
  unfolding count_word
  count_9 e = rw e

  pub count_else : (k ≡ 0 → ⊥) → (k ≡ 1 → ⊥) → (k ≡ 8 → ⊥) → (k ≡ 9 → ⊥) → count_word i k ≡ 0
  unfolding count_word
  count_else a b c d = rw (ne_eqb _ _ a, ne_eqb _ _ b, ne_eqb _ _ c, ne_eqb _ _ d)

module _ (s : List ℕ) (i : Index) (k : ℕ) where
  pub fixed_4 : k ≡ 4 → fixed_word s i k ≡ place_from i.texts.count 0 (text "on") s 6
  unfolding fixed_word
  fixed_4 e = rw e

  pub fixed_5 : k ≡ 5 → fixed_word s i k ≡ place_from i.texts.count 0 (text "off") s 6
  unfolding fixed_word
  fixed_5 e = rw e

  pub fixed_6 : k ≡ 6 → fixed_word s i k ≡ place_from i.texts.count 0 (text "unknown") s 6
  unfolding fixed_word
  fixed_6 e = rw e

  pub fixed_else : (k ≡ 4 → ⊥) → (k ≡ 5 → ⊥) → (k ≡ 6 → ⊥) →
      fixed_word s i k ≡ place_from i.texts.count 0 (text "unavailable") s 6
  unfolding fixed_word
  fixed_else a b c = rw (ne_eqb _ _ a, ne_eqb _ _ b, ne_eqb _ _ c)

  pub head_low : k < 2 → head_word s i k ≡ count_word i k
  unfolding head_word
  head_low h = rw (lt-ltb k 2 h)

  pub head_2 : k ≡ 2 → head_word s i k ≡ four s (cap i.limits + 0)
  unfolding head_word
  head_2 e = rw e

  pub head_3 : k ≡ 3 → head_word s i k ≡ four s (cap i.limits + 4)
  unfolding head_word
  head_3 e = rw e

  pub head_fixed : 2 ≤ k → (k ≡ 2 → ⊥) → (k ≡ 3 → ⊥) → k < 8 → head_word s i k ≡ fixed_word s i k
  unfolding head_word
  head_fixed a b c h = rw (le-ltb k 2 a, ne_eqb k 2 b, ne_eqb k 3 c, lt-ltb k 8 h)

  pub head_10 : k ≡ 10 → head_word s i k ≡ start_word s i 0
  unfolding head_word
  head_10 e = rw e

  pub head_11 : k ≡ 11 → head_word s i k ≡ start_word s i 4
  unfolding head_word
  head_11 e = rw e

  pub head_high : 2 ≤ k → (k ≡ 2 → ⊥) → (k ≡ 3 → ⊥) → 8 ≤ k → (k ≡ 10 → ⊥) → (k ≡ 11 → ⊥) → head_word s i k ≡ count_word i k
  unfolding head_word
  head_high a b c h d e = rw (le-ltb k 2 a, ne_eqb k 2 b, ne_eqb k 3 c, le-ltb k 8 h, ne_eqb k 10 d, ne_eqb k 11 e)

  pub table_head : k < 16 → table_word s i k ≡ head_word s i k
  unfolding table_word
  table_head h = rw (lt-ltb k 16 h)

  pub table_part : 16 ≤ k → table_word s i k ≡ part_word i.texts.count s i.entities.starts i.rules.starts k
  unfolding table_word
  table_part h = rw (le-ltb k 16 h)

module _ (ts : ℕ) (s names rules : List ℕ) (k : ℕ) where
  pub part_name : k < 48 → {p : ℕ} → p ≡ cap (get_or names (k - 16) 0) → part_word ts s names rules k ≡ two s p
  unfolding part_word
  part_name h e = rw (lt-ltb k 48 h) (ap (two s) (sym e))

  pub part_stale : 48 ≤ k → k < 80 → {p : ℕ} → p ≡ cap (get_or names (k - 48) 0) → part_word ts s names rules k ≡ stale_at s p
  unfolding part_word
  part_stale b h e = rw (le-ltb k 48 b, lt-ltb k 80 h) (ap (stale_at s) (sym e))

  pub part_rule : 48 ≤ k → 80 ≤ k → {p : ℕ} → p ≡ cap (get_or rules ((k - 80) / 8) 0) →
      part_word ts s names rules k ≡ rule_word ts s p ((k - 80) % 8)
  unfolding part_word
  part_rule b c e = rw (le-ltb k 48 b, le-ltb k 80 c) (ap (λ (q : ℕ). rule_word ts s q ((k - 80) % 8)) (sym e))

-- ---- a table whose first words are those of x

unfoldable pub so_far : (ts : ℕ) → (s names rules x : List ℕ) → (j : ℕ) → ℕ
so_far ts s names rules x j = if ltb j 16 then get_or x j 0 else part_word ts s names rules j

module _ (ts : ℕ) (s names rules x : List ℕ) (j : ℕ) where
  pub so_low : j < 16 → get_or x j 0 ≡ so_far ts s names rules x j
  unfolding so_far
  so_low h = sym (rw (lt-ltb j 16 h))

  pub so_high : 16 ≤ j → part_word ts s names rules j ≡ so_far ts s names rules x j
  unfolding so_far
  so_high h = sym (rw (le-ltb j 16 h))

pub so_table : (s : List ℕ) (i : Index) (x : List ℕ) → Headed s i x → (k : ℕ) →
    so_far i.texts.count s i.entities.starts i.rules.starts x k ≡ table_word s i k
so_table s i x h k = elim (dec_lt k 16) [
  | yes g ↦ sym (so_low i.texts.count s i.entities.starts i.rules.starts x k g) ∙ h.words k g
      ∙ sym (table_head s i k g)
  | no g ↦ sym (so_high i.texts.count s i.entities.starts i.rules.starts x k (omega arith))
      ∙ sym (table_part s i k (omega arith))
]

-- the words so far, and one more, as a function of the index says
pub one_more : (f : ℕ → ℕ) (x : List ℕ) (k v : ℕ) → ((j : ℕ) → j < k → get_or x j 0 ≡ f j) → k < length x → v ≡ f k → (j : ℕ) →
    j < k + 1 → get_or (set x k v) j 0 ≡ f j
one_more f x k v g h e j o = elim (dec_lt j k) [
  | yes l ↦ get_or-set_other x k j v 0 (λ q. absurd (omega arith)) ∙ g j l
  | no l ↦ let z : j ≡ k = omega arith in ap (λ (y : ℕ). get_or (set x k v) y 0) z ∙ get_or-set_same x k v 0 h ∙ e ∙ ap f (sym z)
]

pub number_is : (s : List ℕ) (at k : ℕ) {p r : ℕ} → p ≡ cap at → r ≡ four s (p + k) → r ≡ four s (cap at + k)
number_is s at k e f = f ∙ ap (λ (p : ℕ). four s (p + k)) e

pub start_is : (s : List ℕ) (i : Index) (k : ℕ) {p : ℕ} (r : ℕ) → r ≡ four s (cap p + k) → p ≡ end_of i.rules.end 0 →
    r ≡ start_word s i k
unfolding start_word
start_is s i k r e f = e ∙ ap (λ (p : ℕ). four s (cap p + k)) f
