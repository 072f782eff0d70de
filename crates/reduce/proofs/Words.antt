-- Events that stand as words: with one of them left out, as the simulator's, and as the rewriter's.
use Prim.Native.Nat.{ℕ, zero, suc, ◌+◌, ◌-◌, ◌*◌, ◌≤◌, ◌<◌}
use mathlib.Core.Path.{◌≡◌, refl, sym, ap, ◌∙◌}
use mathlib.Core.List.{List, [], ◌∷◌, ◌++◌}
use native.Mathlib.Numerals.{add-one}
use native.Mathlib.Omega.{arith}
use lib.ListN.{length, get_or, take, drop}
use lib.Seq.{take-nil, drop-nil}
use Rattle.layout.specs.Sizes.{event_word_count}
use Rattle.texts.specs.Texts.{Text}
use Rattle.areas.specs.Areas.{area, closed}
use Rattle.areas.proofs.Laws as areas
use Rattle.model_spec.specs.Answer.{answer, accept}
use Rattle.model_spec.specs.Model.{Event, Model}
use Rattle.model_spec.specs.Events.{event_words, EventWords}
use Rattle.model_spec.proofs.Events.{event_size}
use Rattle.model_spec.specs.Rewrite.{place_of}
use Rattle.model_spec.specs.Validate.{check_input, accepted}
use Rattle.model_index.specs.declared.Index.{Index}
use Rattle.model_index.specs.Indexed.{Indexed}
use Rattle.engine_refinement.specs.Meaning.{Tabled}
use Rattle.engine_refinement.proofs.Lists.{each_get_d}
use Rattle.engine_refinement.proofs.Outcome.{event_at}
use Rattle.engine_refinement.specs.Events.{EventAt}
use Rattle.engine_refinement.proofs.Words.{text_place}
use Rattle.engine_inputs.specs.Inputs.{EventsOf}
use Rattle.engine_inputs.proofs.Refines.{Fine, events_accepted, events_fine, events_are, event_words_here}
use Rattle.checker_spec.specs.Minimize.{remove}
use Rattle.checker_spec.proofs.Some.{some_all, some_some, some_each, remove_some}
use Rattle.reduce.specs.Events.{Left}
use Rattle.reduce.specs.Promises.{Without}

-- ---- lists without an element

module _ {A : Type 0} where
  pub remove_length : (i : ℕ) (l : List A) → i < length l → length (remove i l) + 1 ≡ length l
  unfolding remove
  remove_length i [] h = absurd (omega arith)
  remove_length zero (x ∷ l) h = omega arith
  remove_length (suc i) (x ∷ l) h = omega (arith, remove_length i l (omega arith))

  remove_parts : (i : ℕ) (l : List A) → take i l ++ drop (suc i) l ≡ remove i l
  unfolding remove
  remove_parts i [] = rw (take-nil, drop-nil)
  remove_parts zero (x ∷ l) = refl
  remove_parts (suc i) (x ∷ l) = ap (λ (m : List A). x ∷ m) (remove_parts i l)

-- ---- words without an event's

pub left_without : (ts : List Text) (m : Model) (w : List ℕ) (n i : ℕ) → i < n → n ≤ 100 → (r : List ℕ) → Without w n i r →
    (vs : List Event) → Left m ts w n vs → Left m ts r (n - 1) (remove i vs)
left_without ts m w n i h few r is vs o = record {
  many = omega (arith, o.many, remove_length i vs (omega (arith, o.many)));
  some = some_some (remove_some i vs) o.some;
  held =
      is.is
      ∙ ap (λ (l : List ℕ). closed l (i * 4) 4 (n * 4)) o.held
      ∙ areas.out_is (event_words ts) 4 (event_size ts) event_word_count vs n i (sym o.many) h (omega arith)
      ∙ ap (area (event_words ts) event_word_count) (rw (add-one i) (remove_parts i vs));
}

-- ---- of an accepted model

module _ (f : List ℕ) (i : Index) (m : Model) (acc : accepted f ≡ answer m) (o : Indexed f i m) where
  -- as the writer reads them
  pub left_words : ((k : ℕ) → k < length o.ts → place_of (get_or o.ts k []) o.ts ≡ k) →
      (w : List ℕ) (n : ℕ) (vs : List Event) → Left m o.ts w n vs → (d : Event) (k : ℕ) → k < length vs →
      EventWords o.ts w k (get_or vs k d)
  left_words places w n vs l d k h =
      event_words_here o.ts w d vs event_word_count l.held k h
      (each_get_d (λ (v : Event). Fine o.ts v.input) vs k d h
      (some_each (λ (v : Event). Fine o.ts v.input) l.some (events_fine f i m acc o places)))

module _ (f x : List ℕ) (i : Index) (m : Model) (acc : accepted f ≡ answer m) (o : Indexed f i m)
    (tb : Tabled f x o.ts m) where
  -- as the simulator reads them
  pub left_at : (w : List ℕ) (n : ℕ) (vs : List Event) → Left m o.ts w n vs → (d : Event) (k : ℕ) → k < length vs →
      EventAt f x o.ts m w k (get_or vs k d)
  left_at w n vs l d k h =
      let e = left_words f i m acc o (text_place f x o.ts m tb) w n vs l d k h in
      event_at f x o.ts m tb w k (get_or vs k d)
      (each_get_d (λ (v : Event). check_input m.scenario.entities v.input ≡ accept) vs k d h
      (some_each (λ (v : Event). check_input m.scenario.entities v.input ≡ accept) l.some
      (events_accepted f m acc)))
      e.second
      e.input

  -- the model's own events
  pub own_left : (w : List ℕ) → EventsOf f i w → (n : ℕ) → n ≡ length m.scenario.events
      → Left m o.ts w n m.scenario.events
  own_left w ev n many = record {
    many = many;
    some = some_all m.scenario.events;
    held = events_are f x i m acc o tb w ev;
  }
