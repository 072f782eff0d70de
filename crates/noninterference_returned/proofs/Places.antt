-- A text of the file stands at its place. The identifiers of an accepted model's invariants are texts of the file, and so
-- are the texts of its alphabet.
use Rattle.std.specs.Prelude.{if◌then◌else◌}
use Prim.Native.Nat.{ℕ, zero, suc, ◌+◌, ◌<◌}
use mathlib.Core.Path.{◌≡◌, refl, sym, ap, ◌∙◌, subst}
use mathlib.Core.Bool.{true, false}
use mathlib.Core.List.{List, [], ◌∷◌}
use native.Mathlib.Omega.{arith}
use lib.ListN.{length, get_or}
use Rattle.texts.specs.Texts.{Text, eq_t}
use Rattle.model_spec.specs.Answer.{answer, refused}
use Rattle.model_spec.specs.Events.{input_words, InputWords}
use Rattle.model_spec.specs.Model.{Input, Invariant, id_of, Model}
use Rattle.model_spec.specs.File.{got, refuse, u32, counted, place, predicate, invariant, invariant_kinds}
use Rattle.model_spec.specs.File.{◌>>=◌ as ◌>>=ᵣ◌}
use Rattle.model_spec.specs.Rewrite.{place_of}
use Rattle.model_spec.specs.Validate.{accepted}
use Rattle.model_walk.proofs.Found.{bound, given, Kind, kind_found, place_found}
use Rattle.model_walk.proofs.Found as found
use Rattle.model_index.specs.Index.{read_m}
use Rattle.model_index.specs.Indexed.{Indexed, Says}
use Rattle.model_index.proofs.Refines.{says}
use Rattle.engine_spec.specs.Words.{texts_in}
use Rattle.engine_spec.proofs.Lists.{Each, Case, is_true, is_false, case, eq_t_eq, eq_t_same}
use Rattle.engine_spec.proofs.Validated.{accepted_decoded}
use Rattle.engine_refinement.proofs.Accepted.{accepted_lawful}
use Rattle.search_inputs.proofs.Refines.{fine_here}

-- the text is one of the list
pub record In (t : Text) (ts : List Text) : Type 0 where
  pub at : ℕ
  pub inside : at < length ts
  pub is : t ≡ get_or ts at []

later : (t x : Text) (l : List Text) → eq_t t x ≡ false → (k : ℕ) → k < length (x ∷ l) → t ≡ get_or (x ∷ l) k [] → In t l
later t x l e zero h z =
    let q : eq_t t x ≡ true = ap (eq_t t) (sym z) ∙ eq_t_same t in
    let w : true ≡ false = sym q ∙ e in
    let y : ◌≡◌ {A = ℕ} 0 1 = cc in
    absurd (omega arith)
later t x l e (suc k) h z = record { at = k; inside = omega arith; is = z }

-- and then it stands at its place
pub at_place : (t : Text) (ts : List Text) → In t ts → get_or ts (place_of t ts) [] ≡ t
unfolding place_of
at_place t [] i = absurd (omega (arith, i.inside))
at_place t (x ∷ l) i = by (case (eq_t t x)) (at_place t l)
  where
    by : Case (eq_t t x) → (In t l → get_or l (place_of t l) [] ≡ t) →
        get_or (x ∷ l) (if eq_t t x then 0 else 1 + place_of t l) [] ≡ t
    by (is_true e) g = rw e (sym (eq_t_eq t x e))
    by (is_false e) g =
        let n : 1 + place_of t l ≡ suc (place_of t l) = omega arith in
        rw (e, n) (g (later t x l e i.at i.inside i.is))

-- ---- identifiers

module _ (ts : List Text) (s : List ℕ) where
  in_place : (p : ℕ) {t : Text} {q : ℕ} → place ts s p ≡ got t q → In t ts
  in_place p e = let x = place_found ts e in record { at = x.at; inside = x.is_in; is = x.is_text }

  pub id_in : (p : ℕ) (a : Invariant) (q : ℕ) → invariant ts s p ≡ got a q → In (id_of a) ts
  unfolding invariant id_of
  id_in p a q e = by k.kind k.holds
    where
      k : Kind (invariant_kinds ts) s p a q
      k = kind_found (invariant_kinds ts) e

      by : (i : ℕ) → get_or (invariant_kinds ts) i refuse s k.next ≡ got a q → In (id_of a) ts
      by zero h =
          let i = bound (place ts) _ h in
          let l = bound (counted (predicate ts)) _ i.rest in
          subst (λ (y : Invariant). In (id_of y) ts) (given _ _ _ l.rest).0 (in_place _ i.first)
      by (suc zero) h =
          let i = bound (place ts) _ h in
          let x = bound (place ts) _ i.rest in
          let v = bound (place ts) _ x.rest in
          let l = bound (counted (predicate ts)) _ v.rest in
          subst (λ (y : Invariant). In (id_of y) ts) (given _ _ _ l.rest).0 (in_place _ i.first)
      by (suc (suc zero)) h =
          let i = bound (place ts) _ h in
          let x = bound (place ts) _ i.rest in
          let f = bound (place ts) _ x.rest in
          let t = bound (place ts) _ f.rest in
          subst (λ (y : Invariant). In (id_of y) ts) (given _ _ _ t.rest).0 (in_place _ i.first)
      by (suc (suc (suc zero))) h =
          let i = bound (place ts) _ h in
          let x = bound (predicate ts) _ i.rest in
          let y = bound (predicate ts) _ x.rest in
          let w = bound u32 _ y.rest in
          subst (λ (y : Invariant). In (id_of y) ts) (given _ _ _ w.rest).0 (in_place _ i.first)
      by (suc (suc (suc (suc i)))) h = absurd (found.refused s k.next h)

-- ---- the alphabet

-- an input's texts stand at the places that its words name
abbrev pub Stands : (texts : List Text) → Input → Type 0
Stands ts i = InputWords ts (get_or (input_words ts i) 0 0) (get_or (input_words ts i) 1 0) (get_or (input_words ts i) 2 0) i

all_of : {A : Type 0} (P : A → Type 0) (d : A) (l : List A) → ((k : ℕ) → k < length l → P (get_or l k d)) → Each P l
all_of P d [] h = tt
all_of P d (x ∷ l) h = (h 0 (omega arith), all_of P d l (λ k o. h (suc k) (omega arith)))

-- ---- of an accepted file

module _ (f : List ℕ) (m : Model) (acc : accepted f ≡ answer m) where
  indexed : Indexed f (read_m f).index m
  indexed = (subst (Says f (read_m f)) (accepted_decoded f m acc) (says f refl)).indexed

  texts_are : indexed.ts ≡ texts_in f
  unfolding texts_in
  texts_are = sym (rw (indexed.all_texts.1, texts_in))

  pub invariant_in : (d : Invariant) (k : ℕ) → k < length m.scenario.invariants →
      In (id_of (get_or m.scenario.invariants k d)) (texts_in f)
  invariant_in d k h =
      let few = (accepted_lawful f m acc).few_invariants in
      let x = indexed.invariants.stand d k (omega arith) h in
      subst (In (id_of (get_or m.scenario.invariants k d))) texts_are (id_in indexed.ts f _ _ x.0 x.1)

  pub alphabet_stands : Each (Stands (texts_in f)) m.scenario.alphabet
  alphabet_stands = all_of (Stands (texts_in f)) Input.restart m.scenario.alphabet
      (λ k h. subst (λ (ts : List Text). Stands ts (get_or m.scenario.alphabet k Input.restart)) texts_are
      (fine_here f (read_m f).index m acc indexed Input.restart k h))
