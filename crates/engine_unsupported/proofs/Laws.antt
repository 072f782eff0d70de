-- The laws that the proofs of actions' and automations' listings cite.
use mathlib.Core.Path.{◌≡◌, refl, sym, ap, ◌∙◌}
use mathlib.Core.List.{List}
use Prim.Native.Nat.{ℕ, zero, suc, ◌+◌, ◌-◌, ◌≤◌, ◌<◌}
use native.Mathlib.Numerals.{sub-one}
use native.Mathlib.Omega.{arith}
use lib.ListN.{get_or}
use borrow.Author.Tests.{ne_eqb}
use Rattle.texts.specs.Texts.{Text}
use Rattle.model_spec.specs.File.{u8, u16, u32}
use Rattle.reasons.specs.Kinds as kinds
use Rattle.reasons.specs.declared.Reason.{Reason}
use Rattle.reasons.specs.Reasons.{render}
use Rattle.reasons.specs.Readable.{Readable, HasText}
use Rattle.reasons.specs.Lists.{reasons, listed}
use Rattle.bounds.specs.Bounds.{at_most}
use Rattle.engine_fields.specs.Fields.{word, rules, text_position}
use Rattle.engine_fields.proofs.Readable.{position_stands}
use Rattle.engine_unsupported.specs.declared.Head.{Head}
use Rattle.engine_notes.specs.declared.Part.TheVariants as part
use Rattle.engine_notes.specs.Listing.{
  After,
  after,
  Listing,
  ◌⨾◌,
  read,
  by,
  stay,
  skip_m,
  times_m,
  insert_m,
  trigger_m,
  predicate_m,
  parts_m,
}
use Rattle.engine_unsupported.specs.Listing.{
  source_note,
  no_head,
  head_of,
  source_m,
  unknown_m,
  wait_m,
  simple_m,
  choice_m,
  effect_m,
  action_m,
  actions_m,
  own_m,
  rule_m,
  rules_m,
  unsupported_m,
}

-- ---- one listing after the other

module _ (f : List ℕ) (p : ℕ) (l : List Text) where
  pub assoc : (a b c : Listing) → ((a ⨾ b) ⨾ c) f p l ≡ (a ⨾ (b ⨾ c)) f p l
  unfolding ◌⨾◌
  assoc a b c = refl

module _ (k : Listing) (f : List ℕ) (p : ℕ) (l : List Text) where
  pub times_then : (m : Listing) (i : ℕ) → 0 < i → (times_m i k ⨾ m) f p l ≡ (k ⨾ (times_m (i - 1) k ⨾ m)) f p l
  unfolding times_m
  times_then m zero h = absurd (omega arith)
  times_then m (suc i) h = rw (sub-one (suc i)) (assoc f p l k (times_m i k) m)

  pub none_then : (m : Listing) (i : ℕ) → i ≤ 0 → (times_m i k ⨾ m) f p l ≡ m f p l
  unfolding times_m ◌⨾◌ stay
  none_then m zero h = refl
  none_then m (suc i) h = absurd (omega arith)

-- ---- actions

pub source_is : (f : List ℕ) (l c m a : ℕ) → a ≡ text_position f m →
    record { kind = kinds.source_note_kind; first = 4294967295; second = a; line = l; column = c } ≡ source_note f l c m
unfolding source_note
source_is f l c m a e = rw e

pub source_readable : {f : List ℕ} {r : Reason} (l c m : ℕ) → r ≡ source_note f l c m → HasText f → Readable f r
unfolding source_note
source_readable {f} l c m e h =
    rw e (record { known = omega arith; first = refl; second = position_stands f h m; line = tt; column = tt })

module _ (f : List ℕ) (p : ℕ) (l : List Text) where
  pub source_put : (a c m : ℕ) {r : Reason} {t : List Text} → r ≡ source_note f a c m → t ≡ insert_m (render f r) l →
      source_m a c m f p l ≡ after p t
  unfolding source_m
  source_put a c m e g = ap (after p) (sym (g ∙ ap (λ (y : Reason). insert_m (render f y) l) e))

  pub unknown_is : (a c : ℕ) → unknown_m a c f p l ≡ by u16 (source_m a c) f p l
  unfolding unknown_m
  unknown_is a c = refl

  pub wait_is : wait_m f p l ≡ (trigger_m 65535 ⨾ skip_m 5) f p l
  unfolding wait_m
  wait_is = refl

  -- an effect's kind
  module _ (h : Head) where
    pub simple_3 : h.kind ≡ 3 → simple_m h f p l ≡ predicate_m 65535 f p l
    unfolding simple_m
    simple_3 e = rw e

    pub simple_5 : h.kind ≡ 5 → simple_m h f p l ≡ wait_m f p l
    unfolding simple_m
    simple_5 e = rw e

    pub simple_6 : h.kind ≡ 6 → simple_m h f p l ≡ unknown_m h.line h.column f p l
    unfolding simple_m
    simple_6 e = rw e

    pub simple_1 : h.kind ≡ 1 → simple_m h f p l ≡ skip_m 2 f p l
    unfolding simple_m
    simple_1 e = rw e

    pub simple_else : (h.kind ≡ 3 → ⊥) → (h.kind ≡ 5 → ⊥) → (h.kind ≡ 6 → ⊥) → (h.kind ≡ 1 → ⊥) →
        simple_m h f p l ≡ skip_m 4 f p l
    unfolding simple_m
    simple_else a b c d = rw (ne_eqb _ _ a, ne_eqb _ _ b, ne_eqb _ _ c, ne_eqb _ _ d)

    pub effect_choice : (m : Listing) → h.kind ≡ 4 → effect_m m h f p l ≡ choice_m m f p l
    unfolding effect_m
    effect_choice m e = rw e

    pub effect_simple : (m : Listing) → (h.kind ≡ 4 → ⊥) → effect_m m h f p l ≡ simple_m h f p l
    unfolding effect_m
    effect_simple m e = rw (ne_eqb _ _ e)

  pub action_is : (m : Listing) (h : Head) → h ≡ head_of f p → action_m m f p l ≡ effect_m m h f h.next l
  unfolding action_m
  action_is m h e = ap (λ (y : Head). effect_m m y f y.next l) (sym e)

  pub actions_none : (left : ℕ) → left ≡ 0 → actions_m left f p l ≡ after p l
  unfolding actions_m stay
  actions_none left h = rw h

  pub actions_more : (left : ℕ) → (left ≡ 0 → ⊥) →
      actions_m left f p l ≡ by u16 (λ c. times_m c (action_m (actions_m (left - 1)))) f p l
  unfolding actions_m
  actions_more zero h = absurd (h refl)
  actions_more (suc left) h = rw (sub-one (suc left))

pub head_is : (f : List ℕ) (p : ℕ) →
    head_of f p ≡ read u32 (no_head p) (λ l q. read u32 (no_head p)
    (λ c t. read u8 (no_head p) (λ k o. record { line = l; column = c; kind = k; next = o }) f t) f q) f p
unfolding head_of
head_is f p = refl

-- ---- automations

module _ (f x : List ℕ) where
  pub rules_start : (n : ℕ) (a : List ℕ) → n ≡ at_most (get_or x 1 0) 32 →
      unsupported_m f x ≡ rules_m f x (n - 0) 0 (listed f 0 a)
  unfolding unsupported_m rules reasons
  rules_start n a e = let z : n - 0 ≡ n = omega arith in rw (z, e)

  pub rules_more : (n i : ℕ) (l m : List Text) → i < n → m ≡ rule_m f x i l →
      rules_m f x (n - i) i l ≡ rules_m f x (n - (i + 1)) (i + 1) m
  unfolding rules_m
  rules_more n i l m h e = let z : n - i ≡ suc (n - (i + 1)) = omega arith in rw (z, e)

  pub rules_end : (n i : ℕ) (l : List Text) → n ≤ i → rules_m f x (n - i) i l ≡ l
  unfolding rules_m
  rules_end n i l h = let z : n - i ≡ 0 = omega arith in rw z

  pub own_is : (i : ℕ) {v n o p : ℕ} {a b c : After} (l : List Text)
      → v ≡ word x i 0
      → n ≡ word x i 7
      → o ≡ word x i 3
      → p ≡ word x i 4
      → a ≡ parts_m part.Note v f n l
      → b ≡ parts_m part.Trigger v f o a.list
      → c ≡ parts_m part.Predicate v f p b.list
      → c.list ≡ own_m f x i l
  unfolding own_m
  own_is i l e g h k q r s = rw (s, r, q, k, h, g, e)

  pub rule_is : (i : ℕ) {p : ℕ} {a : List Text} {b : After} (l : List Text) → p ≡ word x i 5 → a ≡ own_m f x i l →
      b ≡ actions_m 18 f p a → b.list ≡ rule_m f x i l
  unfolding rule_m
  rule_is i l e q r = rw (r, q, e)
