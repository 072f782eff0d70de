-- The words of each kind, and the rendering of each form: what users of reasons cite.
use mathlib.Core.Path.{◌≡◌, refl, sym, ap, ◌∙◌}
use mathlib.Core.List.{List, [], ◌∷◌, ◌++◌, append-nil}
use Prim.Native.Nat.{ℕ, ◌≤◌}
use lib.ListN.{length, get_or, get_or-map, get_or-eq_default}
use Rattle.texts.specs.Lists.{flat}
use Rattle.texts.specs.Texts.{text, decimal, digits, order_t, eq_t, lt_t}
use Rattle.texts.specs.Places.{text_at}
use Rattle.std.specs.declared.cmp.Ordering.TheVariants.{Less, Greater}
use Rattle.texts.proofs.Laws.{absent}
use Rattle.reasons.specs.Kinds.{Kind, kinds, no_kind, source_note_kind}
use Rattle.reasons.specs.Reasons.{words_file, words, placed, body, render}
use Rattle.reasons.proofs.Rendering.{with_source, without}

-- where the words of each kind start in the code's file of words
abbrev pub starts : List ℕ
starts = 0 ∷ 1 ∷ 4 ∷ 7 ∷ 35 ∷ 61 ∷ 88 ∷ 115 ∷ 140 ∷ 166 ∷ 189 ∷ 220 ∷ 249 ∷ 284 ∷ 316 ∷ 338 ∷ 387 ∷ []

pub start_is : (k : ℕ) → text_at words_file (get_or starts k 0) ≡ words k
unfolding words_file words flat text_at
start_is k = sym (get_or-map (text_at words_file) starts k 0) ∙ get_or-map Kind.words kinds k no_kind

-- past the last kind
pub start_past : (k : ℕ) → 17 ≤ k → text_at words_file 0 ≡ words k
unfolding words_file words flat text_at
start_past k h = sym (ap (λ (d : Kind). d.words) (get_or-eq_default kinds no_kind h))

-- numbers and the order, by example
pub numbers : decimal 0 ∷ decimal 10 ∷ decimal 4294967295 ∷ [] ≡ text "0" ∷ text "10" ∷ text "4294967295" ∷ []
unfolding decimal digits
numbers = refl

pub orders : order_t (text "10:1: x") (text "1:1: x") ∷ order_t (text "1:1: x") (text "9:1: x") ∷ order_t (text "r!: n")
    (text "r: n") ∷ order_t (text "r") (text "r: n") ∷ order_t (text "b") (text "ab") ∷ []
    ≡ Less ∷ Less ∷ Less ∷ Less ∷ Greater ∷ []
unfolding order_t eq_t lt_t
orders = refl

module _ (f : List ℕ) (small : length f ≤ 4294967295) (k a b l c : ℕ) where
  -- words alone, words behind one text, words between two texts
  pub just_words : (k ≡ source_note_kind → ⊥) → render f
      (record { kind = k; first = 4294967295; second = 4294967295; line = l; column = c }) ≡ words k
  unfolding body
  just_words n = without f (record { kind = k; first = 4294967295; second = 4294967295; line = l; column = c }) n
      ∙ rw (absent f 4294967295 small) (append-nil (words k))

  pub text_words : (k ≡ source_note_kind → ⊥) → render f
      (record { kind = k; first = a; second = 4294967295; line = l; column = c }) ≡ text_at f a ++ words k
  unfolding body
  text_words n = without f (record { kind = k; first = a; second = 4294967295; line = l; column = c }) n
      ∙ rw (absent f 4294967295 small, append-nil (words k))

  pub text_words_text : (k ≡ source_note_kind → ⊥) → render f (record { kind = k; first = a; second = b; line = l; column = c })
      ≡ text_at f a ++ (words k ++ text_at f b)
  unfolding body
  text_words_text n = without f (record { kind = k; first = a; second = b; line = l; column = c }) n

  -- LINE:COLUMN: note
  pub with_place : render f (record { kind = source_note_kind; first = 4294967295; second = b; line = l; column = c })
      ≡ decimal l ++ (58 ∷ decimal c) ++ (words source_note_kind ++ text_at f b)
  unfolding body placed
  with_place = with_source f (record { kind = source_note_kind; first = 4294967295; second = b; line = l; column = c }) refl
      ∙ rw (absent f 4294967295 small)
