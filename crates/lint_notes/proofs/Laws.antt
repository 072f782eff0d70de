-- The laws that the proofs of the notes cite.
use mathlib.Core.Path.{◌≡◌, refl, sym, ap, ◌∙◌, subst}
use mathlib.Core.List.{List, [], ◌∷◌}
use Prim.Native.Nat.{ℕ, suc, ◌+◌, ◌*◌, ◌-◌, ◌^◌, ◌≤◌, ◌<◌}
use native.Mathlib.Omega.{arith}
use lib.Bits.{bit_or}
use lib.ListN.{get_or, set, replicate}
use Rattle.layout.specs.Sizes.{simulation_reasons}
use Rattle.bounds.specs.Bounds.{AtMost}
use Rattle.model_parts.specs.declared.Section.{Section}
use Rattle.texts.specs.Texts.{Text}
use Rattle.reasons.specs.Readable.{HasText}
use Rattle.reasons.specs.Lists.{listed, reasons, Clean}
use Rattle.reasons.proofs.Cleaning.{zeros, clean_zeros}
use Rattle.engine_fields.specs.Fields.{cap}
use Rattle.engine_unsupported.specs.Listing.{rule_m}
use Rattle.lint_walk.specs.Raw.{place_m, number_m, past, triggers_m, conditions_m, actions_m, predicates_end}
use Rattle.lint_walk.specs.Walks.{walk_m}
use Rattle.lint_areas.specs.Areas.{finding, Board, pushes}
use Rattle.lint_findings.specs.Entries.{items_numbers_m}
use Rattle.lint_findings.proofs.Laws.{numbers_start}
use Rattle.lint_notes.specs.Notes.{note_m, note_items, RowOf, RuleNotes, NotesAt, AllNotes, no_notes, more_notes}

pub words_is : (set line column : ℕ) (u : List ℕ) (j k : ℕ) → k ≡ 5 * j →
    (9 ∷ 2 ∷ 5 ∷ 0 ∷ set ∷ line ∷ column ∷ 0 ∷ 0 ∷ get_or u k 0 ∷ get_or u (k + 1) 0 ∷ get_or u (k + 2) 0 ∷ get_or u (k + 3)
    0 ∷ get_or u (k + 4) 0 ∷ []) ≡ note_m set line column u j
unfolding note_m
words_is set line column u j k e = rw e

pub items_is : (set line column : ℕ) (u : List ℕ) (n : ℕ) (x : Board) →
    pushes (note_items set line column u n) x ≡ pushes
    (items_numbers_m (λ j. finding (note_m set line column u j) ∷ []) (n - 0) 0) x
unfolding note_items
items_is set line column u n x = numbers_start (λ j. finding (note_m set line column u j) ∷ []) {n = n} {m = n} x refl

pub actions_is : (s : List ℕ) (p : ℕ) {c : ℕ} → c ≡ conditions_m s p → predicates_end s c ≡ actions_m s p
unfolding actions_m
actions_is s p e = rw e

pub row_is : (s : List ℕ) (p q : ℕ) {a k t b c l d n e : ℕ} → k ≡ conditions_m s p → a ≡ place_m s p → t ≡ triggers_m s p →
    b ≡ cap t → c ≡ cap k → l ≡ predicates_end s k → d ≡ cap l → n ≡ past s q 8 → e ≡ cap n →
    RowOf s p q (set (set (set (set (set (replicate 336 0) 80 a) 83 b) 84 c) 85 d) 87 e)
row_is s p q z₁ z₂ z₃ z₄ z₅ z₆ z₇ z₈ z₉ = record {
  id = z₂;
  triggers = z₄ ∙ ap cap z₃;
  conditions = z₅ ∙ ap cap z₁;
  actions = z₇ ∙ ap cap (z₆ ∙ actions_is s p z₁);
  notes = z₉ ∙ ap cap z₈;
}

-- no reason yet, in an area of zeros
pub none_listed : (f : List ℕ) (n : ℕ) → listed f 0 (replicate n 0) ≡ []
unfolding reasons
none_listed f n = refl

pub none_clean : (f : List ℕ) (n : ℕ) → Clean f 0 (replicate n 0)
none_clean f n = clean_zeros f (zeros n)

pub rule_is : (s : List ℕ) (i : ℕ) {at w : ℕ} {row : List ℕ} (u : List ℕ) {n k line q column x : ℕ} (b : Board)
    {c : Board} {l : List Text} →
    w ≡ (walk_m s at).next → RowOf s at w row → l ≡ [] → listed s n u ≡ rule_m s row 0 l → (HasText s → Clean s n u) →
    AtMost n simulation_reasons k →
    line ≡ number_m s w → q ≡ past s w 4 → column ≡ number_m s q → x ≡ bit_or 0 (2 ^ i) →
    c ≡ pushes (note_items x line column u k) b → NotesAt s at i b c
rule_is s i {at} {w} {row} u {n} {k} {line} {q} {column} {x} b e₀ f₀ z g v h l m o p j rules y =
    let e : w ≡ (walk_m s (get_or rules.starts i 0)).next = e₀ ∙ ap (λ (a : ℕ). (walk_m s a).next) y in
    record {
      row = row;
      reasons = u;
      many = n;
      count = k;
      is_row = subst (λ (a : ℕ). RowOf s a (walk_m s (get_or rules.starts i 0)).next row) y
          (subst (λ (v : ℕ). RowOf s at v row) e f₀);
      are_reasons = g ∙ ap (rule_m s row 0) z;
      clean = v;
      counts = h;
      inserted = j
          ∙ ap (λ (y : ℕ). pushes (note_items y line column u k) b) p
          ∙ ap (λ (y : ℕ). pushes (note_items (bit_or 0 (2 ^ i)) y column u k) b) (l ∙ ap (number_m s) e)
          ∙ ap (λ (y : ℕ). pushes (note_items (bit_or 0 (2 ^ i)) (number_m s (walk_m s (get_or rules.starts i 0)).next) y u k)
          b) (o ∙ ap (number_m s) (m ∙ ap (λ (v : ℕ). past s v 4) e));
    }

module _ (s : List ℕ) (rules : Section) where
  -- one automation less is left
  pub one_less : (n i : ℕ) {b c e : Board} → i < n → RuleNotes s rules i b c → AllNotes s rules (n - (i + 1)) (i + 1) c e →
      AllNotes s rules (n - i) i b e
  one_less n i {b} {c} {e} h f g =
      let z : n - i ≡ suc (n - (i + 1)) = omega arith in
      subst (λ (k : ℕ). AllNotes s rules k i b e) (sym z) (more_notes f g)

  pub none_left : (n i : ℕ) {b : Board} → n ≤ i → AllNotes s rules (n - i) i b b
  none_left n i {b} h =
      let z : n - i ≡ 0 = omega arith in
      subst (λ (k : ℕ). AllNotes s rules k i b b) (sym z) no_notes

  pub from_start : (n : ℕ) {b e : Board} → AllNotes s rules (n - 0) 0 b e → AllNotes s rules n 0 b e
  from_start n {b} {e} h =
      let z : n - 0 ≡ n = omega arith in
      subst (λ (k : ℕ). AllNotes s rules k 0 b e) z h
