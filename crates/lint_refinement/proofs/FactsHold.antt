-- An accepted file and its index are what lint goes by.
use mathlib.Core.Path.{◌≡◌, refl, sym, ap, ◌∙◌, subst}
use mathlib.Core.Bool.{Bool, true, false, ◌&&◌}
use mathlib.Core.List.{List, [], ◌∷◌}
use Prim.Native.Nat.{ℕ, zero, suc, ◌+◌, ◌<◌}
use native.Mathlib.Omega.{arith}
use lib.Dec.{eqb}
use lib.ListN.{length, get_or}
use borrow.Author.Tests.{eq-eqb, ne_eqb}
use Rattle.texts.specs.Lists.{each}
use Rattle.texts.specs.Places.{text_at, start_from}
use Rattle.texts.specs.Texts.{Text, text, eq_t, mem_t}
use Rattle.texts.proofs.Ordering.{not_both, eq_is, eq_refl, eq_sym}
use Rattle.model_spec.specs.Answer.{answer}
use Rattle.model_spec.specs.Model.{Automation, Model}
use Rattle.model_spec.specs.Validate.{accepted}
use Rattle.model_walk.proofs.Found.{Case, is_true, is_false, case}
use Rattle.model_order.specs.Order.{fits, place_from, Fixed}
use Rattle.model_order.proofs.Places.{same_place, texts_ascend, fixed_at, fixed_texts, placed_text}
use Rattle.model_index.specs.declared.Index.{Index}
use Rattle.model_index.specs.Indexed.{Indexed}
use Rattle.engine_spec.proofs.Distinct.{Fresh, accepted_fresh}
use Rattle.lint_access.proofs.Rising.{mem_cons, mem_none, rising_ascending}
use Rattle.lint_refinement.specs.Context.{names_of}
use Rattle.lint_refinement.proofs.Lists.{not_at}
use Rattle.lint_refinement.proofs.Sets.{Once, once_at, eqb_suc}
use Rattle.lint_refinement.proofs.Accepted.{accepted_lawful}
use Rattle.lint_refinement.proofs.FileFacts.{Stage}

-- ---- the place of a text that isn't there

none_from : (w : Text) (s : List ℕ) (n k p : ℕ) → ((j : ℕ) → j < n → eq_t w (text_at s (start_from s p j)) ≡ false) →
    place_from n k w s p ≡ k + n
unfolding place_from start_from
none_from w s zero k p h = omega arith
none_from w s (suc n) k p h =
    let z : (fits s p && eq_t w (text_at s p)) ≡ false =
    ap (λ (b : Bool). fits s p && b) (h 0 (omega arith)) ∙ no (fits s p) in
    let y : k + 1 + n ≡ k + suc n = omega arith in
    rw (z, place_from) (none_from w s n (k + 1) (p + 1 + get_or s p 0) (λ j b. h (suc j) (omega arith)) ∙ y)
  where
    no : (b : Bool) → (b && false) ≡ false
    no true = refl
    no false = refl

-- ---- identifiers

apart : (ids : List Text) (l : List Automation) → Fresh ids l → (t : Text) → mem_t t ids ≡ true →
    mem_t t (each (λ r. r.id) l) ≡ false
unfolding each
apart ids [] f t h = mem_none t
apart ids (r ∷ l) f t h = cases (case (eq_t t r.id)) (λ k. apart (r.id ∷ ids) l f.1 t k)
  where
    cases : Case (eq_t t r.id) → (mem_t t (r.id ∷ ids) ≡ true → mem_t t (each (λ r. r.id) l) ≡ false) →
        mem_t t (r.id ∷ each (λ r. r.id) l) ≡ false
    cases (is_true e) ih = absurd (not_both f.0 (ap (λ (x : Text). mem_t x ids) (sym (eq_is t r.id e)) ∙ h))
    cases (is_false e) ih =
        mem_cons t r.id (each (λ r. r.id) l) ∙ rw e (ih (mem_cons t r.id ids ∙ rw e h))

once_cons : (t : Text) (l : List Text) → mem_t t l ≡ false → Once l → Once (t ∷ l)
unfolding Once
once_cons t l h o zero zero a b = eq_refl t ∙ sym (eq-eqb 0 0 refl)
once_cons t l h o zero (suc j) a b = eq_sym t (get_or l j []) ∙ not_at l t h j (omega arith)
    ∙ sym (ne_eqb 0 (suc j) (λ e. omega arith))
once_cons t l h o (suc i) zero a b = not_at l t h i (omega arith) ∙ sym (ne_eqb (suc i) 0 (λ e. omega arith))
once_cons t l h o (suc i) (suc j) a b = once_at l o i j (omega arith) (omega arith) ∙ sym (eqb_suc i j)

ids_once : (ids : List Text) (l : List Automation) → Fresh ids l → Once (each (λ r. r.id) l)
unfolding each
ids_once ids [] f = nothing
  where
    nothing : Once []
    nothing = unfold Once in (λ i j a b. absurd (omega arith))
ids_once ids (r ∷ l) f =
    once_cons r.id (each (λ r. r.id) l) (apart (r.id ∷ ids) l f.1 r.id
    (mem_cons r.id r.id ids ∙ rw (eq_refl r.id))) (ids_once (r.id ∷ ids) l f.1)

-- ---- the stage

module _ (s : List ℕ) (i : Index) (m : Model) (acc : accepted s ≡ answer m) (o : Indexed s i m) where
  abbrev pub ts : List Text
  ts = o.ts

  texts_count : i.texts.count ≡ length ts
  texts_count = o.each_text.counts

  fixed_here : (w : Text) → mem_t w ts ≡ true → Fixed ts (place_from i.texts.count 0 w s 6) w
  fixed_here w h = subst (λ (c : ℕ). Fixed ts (place_from c 0 w s 6) w) (sym texts_count) (fixed_at s o.all_texts.1 w h)

  -- the place of `*`, there or not
  star_is : (w : Text) (n : ℕ) → n < length ts → eqb n (place_from i.texts.count 0 w s 6) ≡ eq_t (get_or ts n []) w
  star_is w n h = cases (case (mem_t w ts))
    where
      cases : Case (mem_t w ts) → eqb n (place_from i.texts.count 0 w s 6) ≡ eq_t (get_or ts n []) w
      cases (is_true b) =
          let f = fixed_here w b in
          sym (same_place ts (texts_ascend s o.all_texts.1) n (place_from i.texts.count 0 w s 6) h f.is_in)
          ∙ ap (eq_t (get_or ts n [])) f.is_text
      cases (is_false b) =
          let z : place_from i.texts.count 0 w s 6 ≡ length ts =
          ap (λ (c : ℕ). place_from c 0 w s 6) texts_count
          ∙ none_from w s (length ts) 0 6 (λ j k. eq_sym w (text_at s (start_from s 6 j))
          ∙ ap (λ (t : Text). eq_t t w) (placed_text s o.all_texts.1 j k) ∙ not_at ts w b j k)
          ∙ (omega arith) in
          ap (eqb n) z ∙ ne_eqb n (length ts) (λ e. omega arith) ∙ sym (not_at ts w b n h)

  pub staged : Stage s (names_of s i) i.rules ts m
  unfolding names_of
  staged =
      let f = fixed_texts s o.all_texts.1 in
      let l = accepted_lawful s m acc in
      record {
        grounds = record {
          same = same_place ts (texts_ascend s o.all_texts.1);
          counts = o.entities.counts;
          few = l.few_entities;
          stand = o.entities.stand;
          rising = rising_ascending (each (λ e. e.name) m.scenario.entities) o.names;
        };
        invariants = o.invariants;
        on = fixed_here (text "on") f.on;
        off = fixed_here (text "off") f.off;
        star = star_is (text "*");
        rules = o.rules;
        ids = ids_once [] m.rules (accepted_fresh s m acc);
        lawful = l;
      }
