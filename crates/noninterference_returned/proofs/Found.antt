-- Demand 3 of what `verify` returns: from the theorem over the definitions' answers, by the contract of `verify`.
use Prim.Native.Nat.{ℕ, ◌+◌, ◌*◌, ◌<◌}
use mathlib.Core.Path.{◌≡◌, refl, sym, ap, ◌∙◌, subst}
use mathlib.Core.List.{List, [], ◌∷◌}
use mathlib.Core.Option.{Option, none, some}
use native.Mathlib.Omega.{arith}
use lib.ListN.{length, get_or}
use Rattle.texts.specs.Texts.{Text}
use Rattle.areas.specs.Areas.{area}
use Rattle.areas.proofs.Laws as areas
use Rattle.model_spec.specs.Answer.{Answer, answer, refused}
use Rattle.model_spec.specs.Model.{Input, reload, Event, Model}
use Rattle.model_spec.specs.Validate.{accepted}
use Rattle.engine_spec.specs.Memory.{Lent, entries}
use Rattle.engine_spec.specs.Words.{texts_in, entry_words}
use Rattle.engine_spec.proofs.Lists.{Each, some_eq, none_some}
use Rattle.engine_refinement.proofs.Lists.{each_get_d}
use Rattle.checker_spec.specs.Verify as verify
use Rattle.model_spec.specs.Events.{input_words, event_words}
use Rattle.model_spec.proofs.Events.{event_size}
use Rattle.search_answer.specs.declared.Verification.{Verification}
use Rattle.search_answer.specs.Result.{no_verification}
use Rattle.search_entry.specs.Contract.{found_as, WitnessSays, Shows, Says, Verifies}
use Rattle.noninterference.specs.Alike.{Alike, SameSearch}
use Rattle.noninterference.specs.Demand.{witness_events, witness_incomplete}
use Rattle.noninterference.proofs.Demand.{verify_is, demand3}
use Rattle.noninterference_returned.specs.Returned.{event_word, SameEvent, SameFound, Clear}
use Rattle.noninterference_returned.proofs.Places.{Stands, alphabet_stands}
use Rattle.noninterference_returned.proofs.Chosen.{Held, chosen}

-- ---- one answer

-- the definition's search, which the answer shows
record Answered (f : List ℕ) (before : Lent) (o : List ℕ) (r : Verification) : Type 0 where
  v : verify.Verification
  is : verify.verify (entries entry_words before) (length o) f ≡ answer v
  shows : Shows f r v

answered : (f : List ℕ) (r : Verification) (before after : Lent) (o o₁ : List ℕ) → Verifies f r before after o o₁ → Clear r →
    Answered f before o r
answered f r before after o o₁ ve ok = by (verify.verify (entries entry_words before) (length o) f) refl ve.says
  where
    by : (x : Answer verify.Verification) → verify.verify (entries entry_words before) (length o) f ≡ x → Says f r x →
        Answered f before o r
    by (answer v) e s = record { v = v; is = e; shows = s }
    by (refused n) e s = absurd (ok.answered n (ap (λ (y : Verification). y.status) s ∙ unfold no_verification in refl))

empty : {A : Type 0} (l : List A) → length l ≡ 0 → l ≡ []
empty [] h = refl
empty (x ∷ l) h = absurd (omega arith)

-- the answer's witness has these events, whose texts are texts of the file
record Witness (f : List ℕ) (r : Verification) (vs : List Event) : Type 0 where
  count : r.events ≡ length vs
  words : r.words ≡ area (event_words (texts_in f)) 20 vs
  stand : Each (λ (e : Event). Stands (texts_in f) e.input) vs

module _ {f : List ℕ} {before : Lent} {o : List ℕ} {r : Verification} (ok : Clear r) (a : Answered f before o r) where
  no_reasons : a.v.reasons ≡ []
  no_reasons = empty a.v.reasons (sym a.shows.reasons.many ∙ ok.reasons)

  whole : witness_incomplete a.v ≡ []
  unfolding witness_incomplete
  whole = by a.v.witness a.shows.witness
    where
      by : (w : Option verify.Witness) → WitnessSays f r w →
          ◌≡◌ {A = List Text} (elim w [ none ↦ [] | some w ↦ w.check.incomplete ]) []
      by none s = refl
      by (some w) s = empty w.check.incomplete (sym s.check.incomplete.many ∙ ok.complete)

  -- its witness's events, none without a witness
  holds : (m : Model) → accepted f ≡ answer m → (vs : Option (List Event)) → witness_events a.v ≡ vs →
      Witness f r (elim vs [ none ↦ [] | some l ↦ l ])
  unfolding witness_events
  holds m p vs e =
      by a.v.witness a.shows.witness
      (chosen (Stands (texts_in f)) _ m _ (alphabet_stands f m p) a.v (verify_is _ (length o) f m a.v p a.is)) vs e
    where
      by : (w : Option verify.Witness) → WitnessSays f r w → Held (Stands (texts_in f)) w → (vs : Option (List Event)) →
          elim w [ none ↦ none | some w ↦ some w.events ] ≡ vs → Witness f r (elim vs [ none ↦ [] | some l ↦ l ])
      by none s h none e = record {
        count = s.events;
        words = s.words ∙ sym (areas.area_none (event_words (texts_in f)) 20);
        stand = tt;
      }
      by none s h (some l) e = absurd (none_some e)
      by (some w) s h none e = absurd (none_some (sym e))
      by (some w) s h (some l) e =
          subst (Witness f r) (some_eq e) (record { count = s.events; words = s.words; stand = h })

-- ---- two answers with the same events

abbrev none_such : Event
none_such = record { at = 0; input = Input.restart }

module _ (vs : List Event) (k : ℕ) (h : k < length vs) where
  -- the words of the k-th event
  word : (f : List ℕ) (r : Verification) → Witness f r vs → (j : ℕ) → j < 4 →
      event_word r k j ≡ get_or (event_words (texts_in f) (get_or vs k none_such)) j 0
  word f r w j o = ap (λ (l : List ℕ). get_or l (k * 4 + j) 0) w.words
      ∙ areas.word_is (event_words (texts_in f)) 4 (event_size (texts_in f)) 20 vs k j none_such h o

  module _ (f f' : List ℕ) (r r' : Verification) (w : Witness f r vs) (w' : Witness f' r' vs) where
    abbrev ts : List Text
    ts = texts_in f

    abbrev ts' : List Text
    ts' = texts_in f'

    by_input : (at : ℕ) (i : Input) → Stands ts i → Stands ts' i →
        ((j : ℕ) → j < 4 → event_word r k j ≡ get_or (at ∷ input_words ts i) j 0) →
        ((j : ℕ) → j < 4 → event_word r' k j ≡ get_or (at ∷ input_words ts' i) j 0) → SameEvent f f' r r' k
    unfolding input_words
    by_input at (Input.set x v) s s' p p' = record {
      second = p 0 (omega arith) ∙ sym (p' 0 (omega arith));
      kind = p 1 (omega arith) ∙ sym (p' 1 (omega arith));
      entity = λ z. ap (λ (n : ℕ). get_or ts n []) (p 2 (omega arith)) ∙ sym s.1.0.1 ∙ s'.1.0.1
          ∙ sym (ap (λ (n : ℕ). get_or ts' n []) (p' 2 (omega arith)));
      value = λ z. ap (λ (n : ℕ). get_or ts n []) (p 3 (omega arith)) ∙ sym s.1.1.1 ∙ s'.1.1.1
          ∙ sym (ap (λ (n : ℕ). get_or ts' n []) (p' 3 (omega arith)));
    }
    by_input at Input.restart s s' p p' = record {
      second = p 0 (omega arith) ∙ sym (p' 0 (omega arith));
      kind = p 1 (omega arith) ∙ sym (p' 1 (omega arith));
      entity = λ z. absurd (omega (arith, p 1 (omega arith)));
      value = λ z. absurd (omega (arith, p 1 (omega arith)));
    }
    by_input at reload s s' p p' = record {
      second = p 0 (omega arith) ∙ sym (p' 0 (omega arith));
      kind = p 1 (omega arith) ∙ sym (p' 1 (omega arith));
      entity = λ z. absurd (omega (arith, p 1 (omega arith)));
      value = λ z. absurd (omega (arith, p 1 (omega arith)));
    }

    same_event : SameEvent f f' r r' k
    unfolding event_words
    same_event =
        by_input (get_or vs k none_such).at (get_or vs k none_such).input (each_get_d _ vs k none_such h w.stand)
        (each_get_d _ vs k none_such h w'.stand) (word f r w) (word f' r' w')

-- ---- the theorem

pub verify_returned : (f f' : List ℕ) (m m' : Model) → accepted f ≡ answer m → accepted f' ≡ answer m' → Alike m m'
    → SameSearch m m' → (r r' : Verification) (before after before' after' : Lent) (o o₁ o' o₁' : List ℕ)
    → Verifies f r before after o o₁ → Verifies f' r' before' after' o' o₁'
    → Clear r → Clear r' → SameFound f f' r r'
verify_returned f f' m m' p p' alike same r r' before after before' after' o o₁ o' o₁' ve ve' ok ok' =
    let a = answered f r before after o o₁ ve ok in
    let b = answered f' r' before' after' o' o₁' ve' ok' in
    let both = (demand3 f f' m m' p p' alike).1 same _ _ (length o) (length o') a.v b.v a.is b.is
    (no_reasons ok a) (no_reasons ok' b) (whole ok a) (whole ok' b) in
    let w = holds ok a m p (witness_events a.v) refl in
    let w' = holds ok' b m' p' (witness_events a.v) (sym both.events) in
    record {
      status = a.shows.status_is ∙ ap found_as both.status ∙ sym b.shows.status_is;
      cases = a.shows.cases ∙ both.cases ∙ sym b.shows.cases;
      count = w.count ∙ sym w'.count;
      events = λ k h. same_event _ k (omega (arith, h, w.count)) f f' r r' w w';
    }
