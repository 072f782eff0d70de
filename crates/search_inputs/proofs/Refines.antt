-- The words are the model's: its inputs and gaps, and the events that a search places from them.
use mathlib.Core.Path.{◌≡◌, refl, sym, ap, ◌∙◌}
use mathlib.Core.List.{List}
use mathlib.Core.Bool.{true}
use Prim.Native.Nat.{ℕ, zero, suc, ◌+◌, ◌*◌, ◌-◌, ◌/◌, ◌%◌, ◌≤◌, ◌<◌}
use native.Mathlib.Omega.{arith}
use native.Mathlib.Decide.{dec_lt}
use lib.ListN.{length, get_or}
use lib.Seq.{ext_get_or}
use borrow.Author.Tests.{lt-ltb, le-ltb}
use Rattle.texts.specs.Lists.{each}
use Rattle.texts.specs.Texts.{Text}
use Rattle.areas.specs.Areas.{area}
use Rattle.areas.proofs.Laws as areas
use Rattle.model_spec.specs.Answer.{answer, accept}
use Rattle.model_spec.specs.Model.{Event, Input, Model}
use Rattle.model_spec.specs.File.{input, ascending}
use Rattle.model_spec.specs.Events.{input_words, event_words}
use Rattle.model_spec.proofs.Events.{input_size}
use Rattle.model_spec.specs.Validate.{check_input, accepted}
use Rattle.model_walk.proofs.Found.{u32_wide}
use Rattle.model_index.specs.declared.Index.{Index}
use Rattle.model_index.specs.Indexed.{Indexed}
use Rattle.model_rewrite.proofs.Refines.{place_is, texts_found}
use Rattle.engine_fields.specs.Fields.{four, cap}
use Rattle.engine_refinement.specs.Meaning.{Tabled}
use Rattle.engine_refinement.proofs.Accepted.{accepted_lawful}
use Rattle.engine_refinement.proofs.Lists as lists
use Rattle.engine_refinement.proofs.Numbers.{four_is, cap_is}
use Rattle.engine_refinement.proofs.Outcome.{event_at}
use Rattle.engine_refinement.specs.Events.{EventAt}
use Rattle.engine_inputs.specs.Inputs.{input_part}
use Rattle.engine_inputs.proofs.Refines.{Fine, InputAt, input_at, event_words_here, word_behind}
use Rattle.search_inputs.specs.declared.Alphabet.{Alphabet}
use Rattle.search_inputs.specs.declared.Gaps.{Gaps}
use Rattle.search_inputs.specs.GapWords.{gap_words}
use Rattle.search_inputs.specs.Inputs.{input_word, AlphabetOf, gap_word, GapsOf}
use Rattle.search_inputs.proofs.Lawful.{Searchable, accepted_searchable}
use Rattle.engine_spec.proofs.Lists.{each_split}

pub gap_size : (g : ℕ) → length (gap_words g) ≡ 1
unfolding gap_words
gap_size g = refl

-- ---- of an accepted file

module _ (f : List ℕ) (i : Index) (m : Model) (acc : accepted f ≡ answer m) (o : Indexed f i m) where
  abbrev ts : List Text
  ts = o.ts

  abbrev is : List Input
  is = m.scenario.alphabet

  abbrev gs : List ℕ
  gs = m.scenario.gaps

  pub asc : ascending ts ≡ true
  asc = (texts_found f 4 o.all_texts.1).1

  small : length f ≤ 32768
  small = (Rattle.engine_refinement.proofs.Accepted.accepted_small f m acc).0

  near : (p : ℕ) → p ≤ length f → cap p ≡ p
  near p h = cap_is p (omega (arith, h, small))

  few : Searchable m
  few = accepted_searchable f m acc

  -- ---- the inputs

  input_here : (d : Input) (k : ℕ) → k < length is →
      InputAt ts f (place_is ts asc) (get_or i.alphabet.starts k 0) (get_or is k d)
  input_here d k h =
      let r = o.alphabet.stand d k (omega (arith, h, few.few_inputs)) h in
      input_at ts f (place_is ts asc) (get_or i.alphabet.starts k 0) (get_or is k d) r.0 r.1

  pub fine_here : (d : Input) (k : ℕ) → k < length is → Fine ts (get_or is k d)
  fine_here d k h = (input_here d k h).fine

  pub input_accepted : (d : Input) (k : ℕ) → k < length is → check_input m.scenario.entities (get_or is k d) ≡ accept
  input_accepted d k h =
      lists.each_get_d (λ (v : Input). check_input m.scenario.entities v ≡ accept) is k d h
      (each_split (λ (v : Input). check_input m.scenario.entities v ≡ accept)
      (each (λ (v : Event). v.input) m.scenario.events) is (accepted_lawful f m acc).inputs).1

  part_here : (d : Input) (k j : ℕ) → k < length is → j < 3 →
      input_part f (get_or i.alphabet.starts k 0) j ≡ get_or (input_words ts (get_or is k d)) j 0
  unfolding input_part
  part_here d k zero h g = (input_here d k h).kind
  part_here d k (suc zero) h g = (input_here d k h).entity
  part_here d k (suc (suc zero)) h g = (input_here d k h).value
  part_here d k (suc (suc (suc j))) h g = absurd (omega arith)

  input_word_is : (k : ℕ) → k < 36 → input_word f i k ≡ get_or (area (input_words ts) 36 is) k 0
  unfolding input_word
  input_word_is k h = elim (dec_lt (k / 3) (length is)) [
    | yes l ↦
        let e : k / 3 * 3 + k % 3 ≡ k = omega arith in
        let a = input_here Input.restart (k / 3) l in
        let c : k / 3 < i.alphabet.count = omega (arith, l, o.alphabet.counts) in
        rw (lt-ltb (k / 3) i.alphabet.count c, near (get_or i.alphabet.starts (k / 3) 0) a.inside)
        (part_here Input.restart (k / 3) (k % 3) l (omega arith)
        ∙ sym (areas.word_is (input_words ts) 3 (input_size ts) 36 is (k / 3) (k % 3) Input.restart l (omega arith))
        ∙ ap (λ (n : ℕ). get_or (area (input_words ts) 36 is) n 0) e)
    | no l ↦
        let c : i.alphabet.count ≤ k / 3 = omega (arith, l, o.alphabet.counts) in
        rw (le-ltb (k / 3) i.alphabet.count c)
        (sym (word_behind (input_words ts) 3 (input_size ts) 36 is k (omega (arith, l))))
  ]

  pub alphabet_is : (r : Alphabet) → AlphabetOf f i r → r.words ≡ area (input_words ts) 36 is
  alphabet_is r a =
      ext_get_or 0 r.words (area (input_words ts) 36 is)
      (a.long ∙ sym (areas.area_length (input_words ts) 3 (input_size ts) 36 is (omega (arith, few.few_inputs))))
      (λ k h. let g : k < 36 = omega (arith, h, a.long) in a.words k g ∙ input_word_is k g)

  -- ---- the gaps

  gap_read : (k : ℕ) → k < length gs → (four f (get_or i.gaps.starts k 0) ≡ get_or gs k 0)
      × (get_or i.gaps.starts k 0 ≤ length f)
  gap_read k h =
      let r = o.gaps.stand 0 k (omega (arith, h, few.few_gaps)) h in
      let w = u32_wide f (get_or i.gaps.starts k 0) r.1 in
      (four_is f (get_or i.gaps.starts k 0) r.1, omega (arith, w.inside))

  gap_word_is : (k : ℕ) → k < 4 → gap_word f i k ≡ get_or (area gap_words 4 gs) k 0
  unfolding gap_word
  gap_word_is k h = elim (dec_lt k (length gs)) [
    | yes l ↦
        let e : k * 1 + 0 ≡ k = omega arith in
        let a = gap_read k l in
        let c : k < i.gaps.count = omega (arith, l, o.gaps.counts) in
        rw (lt-ltb k i.gaps.count c, near (get_or i.gaps.starts k 0) a.1)
        (a.0
        ∙ sym (areas.word_is gap_words 1 gap_size 4 gs k 0 0 l (omega arith) ∙ unfold gap_words in refl)
        ∙ ap (λ (n : ℕ). get_or (area gap_words 4 gs) n 0) e)
    | no l ↦
        let c : i.gaps.count ≤ k = omega (arith, l, o.gaps.counts) in
        rw (le-ltb k i.gaps.count c) (sym (word_behind gap_words 1 gap_size 4 gs k (omega (arith, l))))
  ]

  pub gaps_are : (r : Gaps) → GapsOf f i r → r.seconds ≡ area gap_words 4 gs
  gaps_are r a =
      ext_get_or 0 r.seconds (area gap_words 4 gs)
      (a.long ∙ sym (areas.area_length gap_words 1 gap_size 4 gs (omega (arith, few.few_gaps))))
      (λ k h. let g : k < 4 = omega (arith, h, a.long) in a.seconds k g ∙ gap_word_is k g)

  -- ---- the events placed, for the simulator

  pub event_at_here : (l : List ℕ) (d : Event) (vs : List Event) → l ≡ area (event_words ts) 20 vs →
      (j : ℕ) → j < length vs → (x : List ℕ) (tb : Tabled f x ts m) → Fine ts (get_or vs j d).input →
      check_input m.scenario.entities (get_or vs j d).input ≡ accept → EventAt f x ts m l j (get_or vs j d)
  event_at_here l d vs e j h x tb w c =
      let y = event_words_here ts l d vs 20 e j h w in
      event_at f x ts m tb l j (get_or vs j d) c y.second y.input
