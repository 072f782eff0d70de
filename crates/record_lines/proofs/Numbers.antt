-- The kinds of records by their numbers: their names and details.
use Rattle.std.specs.Prelude.{if◌then◌else◌}
use mathlib.Core.Path.{◌≡◌, refl, sym, ap, ◌∙◌, subst}
use mathlib.Core.Bool.{Bool, true, false}
use mathlib.Core.Logic.{⊎_elim}
use mathlib.Core.List.{List, [], ◌∷◌, ◌++◌, append_assoc}
use Prim.Native.Nat.{ℕ, zero, suc, ◌+◌, ◌/◌, ◌%◌, ◌≤◌, ◌<◌}
use native.Mathlib.Omega.{arith}
use borrow.Author.Tests.{ne_eqb, lt-ltb, le-ltb}
use lib.Dec.{eqb}
use lib.ListN.{get_or}
use Rattle.texts.specs.Lists.{flat, all_lists}
use Rattle.texts.specs.Texts.{Text, text, digits, decimal}
use Rattle.texts.specs.Places.{text_at, start_from, all_places}
use Rattle.texts.proofs.Ordering.{lt_or_ge}
use Rattle.reasons.proofs.Digits as digits
use Rattle.engine_spec.specs.Kleene as kleene
use Rattle.engine_spec.specs.Truth.{truth_name}
use Rattle.engine_spec.specs.Records.{Kind, kind_name, detail, all_records}
use Rattle.engine_refinement.specs.Meaning.{verdict_of, kind_of}
use Rattle.show.specs.Lines.{escape, quoted, all_lines}
use Rattle.show.proofs.Laws as show
use Rattle.record_lines.specs.RecordWords.{names_file, details_file, name_of, detail_begins, detail_ends}
use Rattle.simulate_lines.proofs.Laws.{flat_append}

-- ---- a rule for n numbers from i on, shown at each of them

abbrev pub Each : (ℕ → Type 0) → (n i : ℕ) → Type 0
Each P zero i = Unit {0}
Each P (suc n) i = P i × Each P n (i + 1)

pub each : (P : ℕ → Type 0) (n i : ℕ) → Each P n i → (k : ℕ) → i ≤ k → k < i + n → P k
each P zero i e k h l = absurd (omega arith)
each P (suc n) i e k h l =
    ⊎_elim
    (λ q. each P n (i + 1) e.1 k (omega arith) (omega arith))
    (λ q. let s : i ≡ k = omega arith in subst P s e.0)
    (lt_or_ge i k)

infixr 5 ◌and◌
pub ◌and◌ : {A B : Type 0} → A → B → A × B
a and b = (a, b)

-- ---- names and details by place

module _ (k : ℕ) where
  pub name_in : (at : ℕ) → k < 18 → at ≡ start_from names_file 0 k → text_at names_file at ≡ name_of k
  unfolding name_of
  name_in at h e = rw (e, lt-ltb k 18 h)

  pub name_out : 18 ≤ k → text "unknown" ≡ name_of k
  unfolding name_of
  name_out h = rw (le-ltb k 18 h)

  pub begin_is : (at : ℕ) → at ≡ start_from details_file 0 k → text_at details_file at ≡ detail_begins k
  unfolding detail_begins
  begin_is at e = rw e

-- ---- of which kind they are

module _ (x : List ℕ) (ts : List Text) where
  -- the kinds from 18 on
  kind_unknown : (k d : ℕ) → 18 ≤ k → kind_of x ts k d ≡ Kind.unknown (get_or ts d [])
  unfolding kind_of
  kind_unknown k d h =
      let no : (i : ℕ) → i < 18 → eqb k i ≡ false = λ i l. ne_eqb k i (λ e. omega arith) in
      rw (
        no 0 (omega arith),
        no 1 (omega arith),
        no 2 (omega arith),
        no 3 (omega arith),
        no 4 (omega arith),
        no 5 (omega arith),
        no 6 (omega arith),
        no 7 (omega arith),
        no 8 (omega arith),
        no 9 (omega arith),
        no 10 (omega arith),
        no 11 (omega arith),
        no 12 (omega arith),
        no 13 (omega arith),
        no 14 (omega arith),
        no 15 (omega arith),
        no 16 (omega arith),
        no 17 (omega arith),
      )

  name_known : (d k : ℕ) → k < 18 → text_at names_file (start_from names_file 0 k) ≡ kind_name (kind_of x ts k d)
  unfolding kind_of all_records all_places
  name_known d k h = each (λ (k : ℕ). text_at names_file (start_from names_file 0 k) ≡ kind_name (kind_of x ts k d)) 18 0
      (refl and refl and refl and refl and refl and refl and refl and refl and refl and refl and refl and refl and refl and
      refl and refl and refl and refl and refl and tt) k (omega arith) h

  pub name_is : (k d : ℕ) → name_of k ≡ kind_name (kind_of x ts k d)
  unfolding name_of kind_name
  name_is k d =
      ⊎_elim
      (λ h. rw (lt-ltb k 18 h) (name_known d k h))
      (λ h. rw (le-ltb k 18 h) (sym (ap kind_name (kind_unknown k d h))))
      (lt_or_ge k 18)

  pub detail_known : (d k : ℕ) → k < 18 → detail_begins k ++ detail_ends k d ≡ detail (kind_of x ts k d)
  unfolding kind_of detail_begins detail_ends all_records all_places
  detail_known d k h = each (λ (k : ℕ). detail_begins k ++ detail_ends k d ≡ detail (kind_of x ts k d)) 18 0
      (refl and refl and refl and refl and refl and refl and refl and refl and refl and refl and refl and refl and refl and
      refl and refl and refl and refl and refl and tt) k (omega arith) h

-- ---- texts without quotes and backslashes are quoted as they are

abbrev Plain : Text → Type 0
Plain t = flat escape t ≡ t

plain_append : (s t : Text) → Plain s → Plain t → Plain (s ++ t)
plain_append s t p q = flat_append escape s t ∙ rw (p, q)

plain_cons : (b : ℕ) (t : Text) → (b ≡ 34 → ⊥) → (b ≡ 92 → ⊥) → Plain t → Plain (b ∷ t)
unfolding flat
plain_cons b t d e p = rw (← show.other b d e, p)

plain_digits : (f n : ℕ) (t : Text) → Plain t → Plain (digits f n t)
unfolding digits
plain_digits zero n t p = p
plain_digits (suc f) n t p =
    ⊎_elim
    (λ h. rw (digits.low f n t h) (plain_cons (48 + n) t (λ e. omega arith) (λ e. omega arith) p))
    (λ h. rw (digits.high f n t h) (plain_digits f (n / 10) ((48 + n % 10) ∷ t)
    (plain_cons (48 + n % 10) t (λ e. omega arith) (λ e. omega arith) p)))
    (lt_or_ge n 10)

plain_decimal : (n : ℕ) → Plain (decimal n)
unfolding decimal flat
plain_decimal n = plain_digits 20 n [] refl

plain_verdict : (v : kleene.Truth) → Plain (truth_name v)
unfolding truth_name all_lists all_lines
plain_verdict kleene.Yes = refl
plain_verdict kleene.No = refl
plain_verdict kleene.Unknown = refl

plain_flag : (b : Bool) → Plain (if b then text "true" else text "false")
unfolding all_lists all_lines
plain_flag true = refl
plain_flag false = refl

plain_seconds : (n : ℕ) → Plain (decimal n ++ text " seconds")
unfolding all_lists all_lines
plain_seconds n = plain_append (decimal n) (text " seconds") (plain_decimal n) refl

plain_begins : (k : ℕ) → k < 18 → Plain (detail_begins k)
unfolding detail_begins all_places all_lists all_lines
plain_begins k h = each (λ (k : ℕ). Plain (detail_begins k)) 18 0
    (refl and refl and refl and refl and refl and refl and refl and refl and refl and refl and refl and refl and refl and
    refl and refl and refl and refl and refl and tt) k (omega arith) h

plain_ends : (d k : ℕ) → k < 18 → Plain (detail_ends k d)
unfolding detail_ends flat
plain_ends d k h =
    let v = plain_verdict (verdict_of d) in
    let n = plain_decimal d in
    each (λ (k : ℕ). Plain (detail_ends k d)) 18 0 (refl and refl and refl and refl and refl and refl and refl and refl and
    refl and refl and v and v and n and n and n and plain_seconds d and n and plain_flag (eqb d 1) and tt) k
    (omega arith) h

plain_quoted : (t : Text) → Plain t → 34 ∷ (t ++ (34 ∷ [])) ≡ quoted t
unfolding quoted
plain_quoted t p = rw p

module _ (x : List ℕ) (ts : List Text) (k d : ℕ) where
  pub detail_is : k < 18 → 34 ∷ (detail_begins k ++ (detail_ends k d ++ (34 ∷ []))) ≡ quoted (detail (kind_of x ts k d))
  detail_is h =
      ap (λ (l : Text). 34 ∷ l) (sym (append_assoc (detail_begins k) (detail_ends k d) (34 ∷ [])))
      ∙ plain_quoted (detail_begins k ++ detail_ends k d)
      (plain_append (detail_begins k) (detail_ends k d) (plain_begins k h) (plain_ends d k h))
      ∙ ap quoted (detail_known x ts d k h)

  pub detail_text : 18 ≤ k → quoted (get_or ts d []) ≡ quoted (detail (kind_of x ts k d))
  unfolding detail
  detail_text h = sym (ap (λ (y : Kind). quoted (detail y)) (kind_unknown x ts k d h))
