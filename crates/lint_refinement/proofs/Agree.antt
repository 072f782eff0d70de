-- Items on places stand for the definition's entries, one by one.
use Rattle.std.specs.Prelude.{if◌then◌else◌}
use mathlib.Core.Path.{◌≡◌, refl, ap, ◌∙◌, subst}
use mathlib.Core.Bool.{Bool, true, false}
use mathlib.Core.List.{List, [], ◌∷◌, ◌++◌}
use Prim.Native.Nat.{ℕ, zero, suc, ◌+◌, ◌<◌}
use native.Mathlib.Omega.{arith}
use native.Mathlib.Nat.{add-zero}
use lib.ListN.{length, get_or, length-append}
use Rattle.texts.specs.Lists.{each, flat}
use Rattle.texts.specs.Texts.{Text}
use Rattle.model_spec.specs.Model.{Source}
use Rattle.lint_spec.specs.Findings.{Problem, Finding, Interaction, Entry}
use Rattle.lint_spec.specs.Lint.{finding_in, interaction_in, overflow}
use Rattle.lint_spec.specs.Words.{source_words, sources_of, finding_words, interaction_words, Reasoned, noted, plain, Worded}
use Rattle.lint_spec.specs.Memory.{Both, neither, both}
use Rattle.lint_areas.specs.Areas.{Item, only_if}
use Rattle.lint_areas.specs.Filled.{findings_of, interactions_of, over}
use Rattle.lint_areas.proofs.Holds.{Shaped, shaped_none, shaped_finding, shaped_interaction}
use Rattle.lint_findings.specs.Entries.{items_numbers_m}

pub both_append : {A B : Type 0} (P : A → B → Type 0) {a b : List A} {x y : List B} → Both P a x → Both P b y →
    Both P (a ++ b) (x ++ y)
both_append P neither g = g
both_append P (both h f) g = both h (both_append P f g)

module _ (file : List ℕ) (names ids : List Text) where
  pub data Stands : Entry → Item → Type 0 where
    as_finding : {f : Finding} {w : List ℕ} → Worded file names ids f w → Stands (Entry.finding f) (Item.finding w)
    as_interaction : {i : Interaction} {w : List ℕ} → w ≡ interaction_words names ids i →
        Stands (Entry.interaction i) (Item.interaction w)

  abbrev pub Agree : List Entry → List Item → Type 0
  Agree es is = Both Stands es is

  pub agree_append : {a b : List Entry} {x y : List Item} → Agree a x → Agree b y → Agree (a ++ b) (x ++ y)
  agree_append f g = both_append Stands f g

  pub agree_if : (b c : Bool) {e : Entry} {i : Item} → c ≡ b → Stands e i → Agree (if b then e ∷ [] else []) (only_if c i)
  unfolding only_if
  agree_if true c d h = rw d (both h neither)
  agree_if false c d h = rw d neither

  -- the items of numbers, from the k-th on, against a list
  pub agree_numbers : {A : Type 0} (f : ℕ → List Item) (g : A → List Entry) (d : A) (l : List A) (k : ℕ) →
      ((j : ℕ) → j < length l → Agree (g (get_or l j d)) (f (k + j))) → Agree (flat g l) (items_numbers_m f (length l) k)
  unfolding flat items_numbers_m
  agree_numbers f g d [] k h = neither
  agree_numbers f g d (x ∷ l) k h =
      agree_append (subst (λ (j : ℕ). Agree (g x) (f j)) (add-zero k) (h 0 (omega arith)))
      (agree_numbers f g d l (k + 1) (λ j b.
      let z : k + suc j ≡ k + 1 + j = omega arith in
      subst (λ (i : ℕ). Agree (g (get_or l j d)) (f i)) z (h (suc j) (omega arith))))

  -- ---- what follows for the areas

  sources_long : (l : List Source) → length (source_words l) ≡ 4
  unfolding source_words
  sources_long [] = refl
  sources_long (a ∷ []) = refl
  sources_long (a ∷ b ∷ l) = refl

  reasoned_long : {p : Problem} {w : List ℕ} → Reasoned file p w → length w ≡ 5
  reasoned_long (noted r h) = refl
  reasoned_long (plain h) = refl

  words_long : {f : Finding} {w : List ℕ} → Worded file names ids f w → length w ≡ 14
  unfolding finding_words
  words_long {f} h =
      ap length h.is
      ∙ length-append (finding_words names ids f) h.reason
      ∙ omega (arith, sources_long (sources_of f), reasoned_long h.reasoned)

  interaction_long : (i : Interaction) → length (interaction_words names ids i) ≡ 3
  unfolding interaction_words
  interaction_long i = refl

  pub agree_shaped : {es : List Entry} {is : List Item} → Agree es is → Shaped is
  agree_shaped neither = shaped_none
  agree_shaped (both (as_finding h) r) = shaped_finding (words_long h) (agree_shaped r)
  agree_shaped (both (as_interaction {i} h) r) = shaped_interaction (ap length h ∙ interaction_long i) (agree_shaped r)

  pub agree_over : {es : List Entry} {is : List Item} → Agree es is → (f i : ℕ) → over is f i ≡ overflow es f i
  unfolding over overflow
  agree_over neither f i = refl
  agree_over (both (as_finding h) r) zero i = refl
  agree_over (both (as_finding h) r) (suc f) i = agree_over r f i
  agree_over (both (as_interaction h) r) f zero = refl
  agree_over (both (as_interaction h) r) f (suc i) = agree_over r f i

  pub agree_findings : {es : List Entry} {is : List Item} → Agree es is →
      Both (Worded file names ids) (flat finding_in es) (findings_of is)
  unfolding flat finding_in findings_of
  agree_findings neither = neither
  agree_findings (both (as_finding h) r) = both h (agree_findings r)
  agree_findings (both (as_interaction h) r) = agree_findings r

  pub agree_interactions : {es : List Entry} {is : List Item} → Agree es is →
      interactions_of is ≡ each (interaction_words names ids) (flat interaction_in es)
  unfolding flat interaction_in interactions_of each
  agree_interactions neither = refl
  agree_interactions (both (as_finding h) r) = agree_interactions r
  agree_interactions (both {l = rest} (as_interaction {i} {w} h) r) =
      ap (λ (l : List (List ℕ)). w ∷ l) (agree_interactions r)
      ∙ ap (λ (v : List ℕ). v ∷ each (interaction_words names ids) (flat interaction_in rest)) h
