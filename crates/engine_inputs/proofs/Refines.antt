-- What a simulation begins with is the model's: the values that its entities start with, and its events.
use mathlib.Core.Path.{◌≡◌, refl, sym, ap, ◌∙◌, subst}
use mathlib.Core.List.{List, [], ◌∷◌}
use Prim.Native.Nat.{ℕ, zero, suc, ◌+◌, ◌-◌, ◌*◌, ◌/◌, ◌%◌, ◌≤◌, ◌<◌}
use native.Mathlib.Omega.{arith}
use native.Mathlib.Decide.{dec_lt}
use lib.ListN.{length, get_or}
use lib.Seq.{ext_get_or, get_or-append-add}
use borrow.Author.Tests.{lt-ltb, ne_eqb}
use Rattle.layout.specs.Sizes.{event_word_count}
use Rattle.texts.specs.Lists.{each}
use Rattle.texts.specs.Texts.{Text}
use Rattle.areas.specs.Areas.{words, area}
use Rattle.areas.proofs.Laws as areas
use Rattle.model_spec.specs.Answer.{answer, accept}
use Rattle.model_spec.specs.Model.{Entity, Event, Input, reload, Model}
use Rattle.model_spec.specs.File.{got, refuse, u32, place, entity, input, event, input_kinds}
use Rattle.model_spec.specs.Events.{input_words, event_words, InputWords, EventWords}
use Rattle.model_spec.specs.Rewrite.{place_of}
use Rattle.model_spec.specs.Validate.{check_input, accepted}
use Rattle.model_spec.proofs.Events.{event_size}
use Rattle.model_walk.proofs.Found as found
use Rattle.model_walk.proofs.Found.{bound, given, u8_wide, u16_wide, u32_wide, kind_found, place_found, entity_found}
use Rattle.model_index.specs.declared.Index.{Index}
use Rattle.model_index.specs.Indexed.{Indexed}
use Rattle.engine_spec.specs.Cells.{initial_cells}
use Rattle.engine_spec.proofs.Lists.{Each, each_split}
use Rattle.bounds.specs.Bounds.{at_most}
use Rattle.engine_fields.specs.Fields.{two, four, cap}
use Rattle.bounds.proofs.Laws.{most_yes}
use Rattle.engine_state.specs.declared.Cells.{Cells}
use Rattle.engine_refinement.specs.Meaning.{cells_of, Tabled}
use Rattle.engine_refinement.proofs.Accepted.{accepted_lawful}
use Rattle.engine_refinement.proofs.Lists as lists
use Rattle.engine_refinement.proofs.Numbers.{byte_is, two_is, four_is, cap_is}
use Rattle.engine_refinement.proofs.Outcome.{event_at, start_cells}
use Rattle.engine_refinement.specs.Events.{EventAt}
use Rattle.engine_refinement.proofs.Evaluate.{Valued}
use Rattle.engine_refinement.proofs.Words.{text_place}
use Rattle.engine_table.proofs.Refines.{times_wide}
use Rattle.engine_inputs.specs.Inputs.{input_part, event_part, event_from, EventsOf, initial_at, value_from, CellsOf}
use Rattle.engine_inputs.proofs.Laws as laws

-- ---- parts of the file

module _ (f : List ℕ) (ts : List Text) where
  -- the entity at p starts with the text at this place
  record Starts (p : ℕ) (e : Entity) : Type 0 where
    place_in : initial_at f p < length ts
    value_is : e.initial ≡ get_or ts (initial_at f p) []
    inside : p ≤ length f

  initial_read : (p : ℕ) (e : Entity) (q : ℕ) → entity ts f p ≡ got e q → Starts p e
  unfolding initial_at
  initial_read p e q h =
      let g = entity_found ts h in
      let c = g.domain in
      let a = u16_wide f p g.name.is_place in
      let b = u16_wide f g.at_domain c.is_count in
      let v = times_wide (place ts) 2 f (λ p a q y. u16_wide f p (place_found ts y).is_place) c.count c.start
      e.domain g.at_initial (omega (arith, b.ends, b.inside)) c.are_values in
      let y : two f (p + 2) ≡ c.count = ap (two f) (sym a.ends) ∙ two_is f g.at_domain c.is_count in
      let o : p + 4 + 2 * two f (p + 2) ≡ g.at_initial = omega (arith, y, a.ends, b.ends, v.ends) in
      let w : two f (p + 4 + 2 * two f (p + 2)) ≡ g.initial.at =
      ap (two f) o ∙ two_is f g.at_initial g.initial.is_place in
      record {
        place_in = subst (λ (k : ℕ). k < length ts) (sym w) g.initial.is_in;
        value_is = g.initial.is_text ∙ ap (λ (k : ℕ). get_or ts k []) (sym w);
        inside = omega (arith, a.inside);
      }

  pub input_inside : (p : ℕ) (v : Input) (q : ℕ) → input ts f p ≡ got v q → p ≤ length f
  unfolding input
  input_inside p v q h = let z = u8_wide f p (kind_found (input_kinds ts) h).is_kind in omega (arith, z.inside)

  -- an input's words are those of its bytes
  pub input_read : (p : ℕ) (v : Input) (q : ℕ) → input ts f p ≡ got v q →
      InputWords ts (get_or f p 0) (two f (p + 1)) (two f (p + 3)) v
  unfolding input
  input_read p v q h = cases k.kind (byte_is f p k.is_kind) k.holds
    where
      k : found.Kind (input_kinds ts) f p v q
      k = kind_found (input_kinds ts) h

      cases : (n : ℕ) → get_or f p 0 ≡ n → get_or (input_kinds ts) n refuse f k.next ≡ got v q →
          InputWords ts (get_or f p 0) (two f (p + 1)) (two f (p + 3)) v
      cases zero e y =
          let a = bound (place ts) _ y in
          let b = bound (place ts) _ a.rest in
          let g = given _ _ _ b.rest in
          let u = place_found ts a.first in
          let w = place_found ts b.first in
          let z = u8_wide f p k.is_kind in
          let o = u16_wide f k.next u.is_place in
          let eu : two f (p + 1) ≡ u.at = ap (two f) (sym z.ends) ∙ two_is f k.next u.is_place in
          let at : p + 3 ≡ a.next = omega (arith, z.ends, o.ends) in
          let ew : two f (p + 3) ≡ w.at = ap (two f) at ∙ two_is f a.next w.is_place in
          subst (InputWords ts (get_or f p 0) (two f (p + 1)) (two f (p + 3))) g.0 (
            e,
            (
              (subst (λ (n : ℕ). n < length ts) (sym eu) u.is_in, u.is_text ∙ ap (λ (n : ℕ). get_or ts n []) (sym eu)),
              (subst (λ (n : ℕ). n < length ts) (sym ew) w.is_in, w.is_text ∙ ap (λ (n : ℕ). get_or ts n []) (sym ew)),
            ),
          )
      cases (suc zero) e y =
          subst (InputWords ts (get_or f p 0) (two f (p + 1)) (two f (p + 3))) (given _ _ _ y).0 e
      cases (suc (suc zero)) e y =
          subst (InputWords ts (get_or f p 0) (two f (p + 1)) (two f (p + 3))) (given _ _ _ y).0 e
      cases (suc (suc (suc n))) e y = absurd (found.refused f k.next y)

-- ---- an input's words, each text by its place

module _ (ts : List Text) where
  -- an input whose texts stand among the file's
  abbrev pub Fine : Input → Type 0
  Fine v = InputWords ts (get_or (input_words ts v) 0 0) (get_or (input_words ts v) 1 0) (get_or (input_words ts v) 2 0) v

  module _ (f : List ℕ) (places : (k : ℕ) → k < length ts → place_of (get_or ts k []) ts ≡ k) where
    pub record InputAt (p : ℕ) (v : Input) : Type 0 where
      pub kind : input_part f p 0 ≡ get_or (input_words ts v) 0 0
      pub entity : input_part f p 1 ≡ get_or (input_words ts v) 1 0
      pub value : input_part f p 2 ≡ get_or (input_words ts v) 2 0
      pub fine : Fine v
      pub inside : p ≤ length f

    pub input_at : (p : ℕ) (v : Input) (q : ℕ) → input ts f p ≡ got v q → InputAt p v
    unfolding input_words input_part
    input_at p v q h = cases v (input_read f ts p v q h)
      where
        plain : (n : ℕ) (w : Input) → get_or f p 0 ≡ suc n → get_or (input_words ts w) 0 0 ≡ suc n
            → get_or (input_words ts w) 1 0 ≡ 0 → get_or (input_words ts w) 2 0 ≡ 0 → Fine w → InputAt p w
        plain n w e a b c d = record {
          kind = e ∙ sym a;
          entity = rw (e, ne_eqb (suc n) 0 (λ z. absurd (omega arith))) (sym b);
          value = rw (e, ne_eqb (suc n) 0 (λ z. absurd (omega arith))) (sym c);
          fine = d;
          inside = input_inside f ts p v q h;
        }

        cases : (w : Input) → InputWords ts (get_or f p 0) (two f (p + 1)) (two f (p + 3)) w → InputAt p w
        cases (Input.set a b) y =
            let pu : place_of a ts ≡ two f (p + 1) = ap (λ (t : Text). place_of t ts) y.1.0.1
            ∙ places (two f (p + 1)) y.1.0.0 in
            let pw : place_of b ts ≡ two f (p + 3) = ap (λ (t : Text). place_of t ts) y.1.1.1
            ∙ places (two f (p + 3)) y.1.1.0 in
            record {
              kind = y.0;
              entity = rw y.0 (sym pu);
              value = rw y.0 (sym pw);
              fine = (refl, ((rw pu y.1.0.0, rw pu y.1.0.1), (rw pw y.1.1.0, rw pw y.1.1.1)));
              inside = input_inside f ts p v q h;
            }
        cases Input.restart y = plain 0 Input.restart y refl refl refl refl
        cases reload y = plain 1 reload y refl refl refl refl

  -- the j-th of the events that an area holds
  module _ (l : List ℕ) (d : Event) (vs : List Event) (len : ℕ) (is-area : l ≡ area (event_words ts) len vs) (j : ℕ)
      (h : j < length vs) where
    abbrev one : Event
    one = get_or vs j d

    word_here : (k : ℕ) → k < 4 → get_or l (j * 4 + k) 0 ≡ get_or (event_words ts one) k 0
    word_here k g = ap (λ (y : List ℕ). get_or y (j * 4 + k) 0) is-area
        ∙ areas.word_is (event_words ts) 4 (event_size ts) len vs j k d h g

    pub event_words_here : Fine one.input → EventWords ts l j one
    unfolding event_words
    event_words_here w =
        let e : j * 4 ≡ j * 4 + 0 = omega arith in
        record {
          second = ap (λ (n : ℕ). get_or l n 0) e ∙ word_here 0 (omega arith);
          input = rw (word_here 1 (omega arith), word_here 2 (omega arith), word_here 3 (omega arith)) w;
        }

-- a word behind the last entry of an area
pub word_behind : {A : Type 0} (enc : A → List ℕ) (size : ℕ) → ((x : A) → length (enc x) ≡ size) →
    (len : ℕ) (l : List A) (k : ℕ) → length l * size ≤ k → get_or (area enc len l) k 0 ≡ 0
unfolding area
word_behind enc size sized len l k h =
    let e : length (words enc l) + (k - length l * size) ≡ k = omega (arith, areas.words_length enc size sized l) in
    ap (λ (n : ℕ). get_or (area enc len l) n 0) (sym e)
    ∙ get_or-append-add (words enc l) _ (k - length l * size) 0
    ∙ laws.zeros (len - length (words enc l)) (k - length l * size)

-- ---- of an accepted file

each_under : {A B : Type 0} (g : A → B) (P : B → Type 0) (l : List A) → Each P (each g l) → Each (λ (a : A). P (g a)) l
unfolding each
each_under g P [] h = tt
each_under g P (a ∷ l) h = (h.0, each_under g P l h.1)

-- an accepted model's events were checked
pub events_accepted : (f : List ℕ) (m : Model) → accepted f ≡ answer m →
    Each (λ (v : Event). check_input m.scenario.entities v.input ≡ accept) m.scenario.events
events_accepted f m acc =
    each_under (λ (v : Event). v.input) (λ (v : Input). check_input m.scenario.entities v ≡ accept)
    m.scenario.events
    (each_split (λ (v : Input). check_input m.scenario.entities v ≡ accept)
    (each (λ (v : Event). v.input) m.scenario.events) m.scenario.alphabet (accepted_lawful f m acc).inputs).0

-- the events of an accepted file, as they stand in it
module _ (f : List ℕ) (i : Index) (m : Model) (acc : accepted f ≡ answer m) (o : Indexed f i m)
    (places : (k : ℕ) → k < length o.ts → place_of (get_or o.ts k []) o.ts ≡ k) where
  record EventRead (p : ℕ) (v : Event) : Type 0 where
    second : four f p ≡ v.at
    words : InputAt o.ts f places (p + 4) v.input
    inside : p ≤ length f

  event_read : (p : ℕ) (v : Event) (q : ℕ) → event o.ts f p ≡ got v q → EventRead p v
  unfolding event
  event_read p v q h =
      let a = bound u32 _ h in
      let b = bound (input o.ts) _ a.rest in
      let g = given _ _ _ b.rest in
      let w = u32_wide f p a.first in
      subst (EventRead p) g.0 (record {
        second = four_is f p a.first;
        words = input_at o.ts f places (p + 4) b.value b.next (ap (input o.ts f) (sym w.ends) ∙ b.first);
        inside = omega (arith, w.inside);
      })

  event_stands : (d : Event) (k : ℕ) → k < length m.scenario.events →
      EventRead (get_or i.events.starts k 0) (get_or m.scenario.events k d)
  event_stands d k h =
      let r = o.events.stand d k (omega (arith, h, (accepted_lawful f m acc).few_events)) h in
      event_read (get_or i.events.starts k 0) (get_or m.scenario.events k d) r.0 r.1

  -- they name texts of the file
  pub events_fine : Each (λ (v : Event). Fine o.ts v.input) m.scenario.events
  events_fine = go m.scenario.events (λ d k h. (event_stands d k h).words.fine)
    where
      go : (l : List Event) → ((d : Event) (k : ℕ) → k < length l → Fine o.ts (get_or l k d).input) →
          Each (λ (v : Event). Fine o.ts v.input) l
      go [] g = tt
      go (v ∷ l) g = (g v 0 (omega arith), go l (λ d k h. g d (suc k) (omega arith)))

module _ (f x : List ℕ) (i : Index) (m : Model) (acc : accepted f ≡ answer m) (o : Indexed f i m) (tb : Tabled f x o.ts m)
  where
    abbrev ts : List Text
    ts = o.ts

    abbrev es : List Entity
    es = m.scenario.entities

    abbrev events : List Event
    events = m.scenario.events

    near : (p : ℕ) → p ≤ length f → cap p ≡ p
    near p h = cap_is p (omega (arith, h, tb.size))

    -- ---- the values

    module _ (c : Cells) (s : CellsOf f i c) where
      value_at : (d : Entity) (e : ℕ) → e < length es →
          (get_or c.values e 0 < length ts) × ((get_or es e d).initial ≡ get_or ts (get_or c.values e 0) [])
      unfolding value_from
      value_at d e h =
          let p = get_or i.entities.starts e 0 in
          let r = o.entities.stand d e (omega (arith, tb.few_entities)) h in
          let g = initial_read f ts p (get_or es e d) r.0 r.1 in
          let k : get_or c.values e 0 ≡ initial_at f p =
          s.values e (omega (arith, tb.few_entities))
          ∙ rw (lt-ltb e i.entities.count (omega (arith, h, o.entities.counts)), near p g.inside) in
          (subst (λ (n : ℕ). n < length ts) (sym k) g.place_in, g.value_is ∙ ap (λ (n : ℕ). get_or ts n []) (sym k))

      pub start_valued : Valued f x ts m tb c.values
      start_valued = record { long = s.values_long; in_texts = λ e h. (value_at none_such e h).0 }
        where
          none_such : Entity
          none_such = get_or es 0 (record {
            name = [];
            domain = [];
            initial = [];
            tier =
                Rattle.model_spec.specs.Model.observational;
            stale_after = mathlib.Core.Option.none;
          })

      pub start_cells_are : initial_cells es ≡ cells_of x ts c.values c.versions
      start_cells_are =
          start_cells f x ts m tb c.values c.versions (λ d e h. (value_at d e h).1)
          (λ e. ap (λ (l : List ℕ). get_or l e 0) s.versions ∙ laws.zeros 32 e)

    -- ---- the events

    abbrev places : (k : ℕ) → k < length ts → place_of (get_or ts k []) ts ≡ k
    places k h = text_place f x ts m tb k h

    few : length events ≤ 100
    few = (accepted_lawful f m acc).few_events

    read : (d : Event) (k : ℕ) → k < length events →
        EventRead f i m acc o places (get_or i.events.starts k 0) (get_or events k d)
    read = event_stands f i m acc o places

    module _ (l : List ℕ) (s : EventsOf f i l) where
      many : at_most i.events.count 100 ≡ length events
      many = sym (most_yes i.events.count 100 (omega (arith, few, o.events.counts))) ∙ o.events.counts

      word_at : (d : Event) (k j : ℕ) → k < length events → j < 4 →
          get_or l (k * 4 + j) 0 ≡ event_part f (get_or i.events.starts k 0) j
      unfolding event_from
      word_at d k j h g =
          let a : (k * 4 + j) / 4 ≡ k = omega arith in
          let b : (k * 4 + j) % 4 ≡ j = omega arith in
          s.words (k * 4 + j) (omega (arith, h, many)) ∙ rw (a, b, near (get_or i.events.starts k 0) (read d k h).inside)

      part_here : (d : Event) (k j : ℕ) → k < length events → j < 4 →
          event_part f (get_or i.events.starts k 0) j ≡ get_or (event_words ts (get_or events k d)) j 0
      unfolding event_part event_words
      part_here d k zero h g = (read d k h).second
      part_here d k (suc zero) h g = (read d k h).words.kind
      part_here d k (suc (suc zero)) h g = (read d k h).words.entity
      part_here d k (suc (suc (suc zero))) h g = (read d k h).words.value
      part_here d k (suc (suc (suc (suc j)))) h g = absurd (omega arith)

      -- the model's events, and zeros behind them
      pub events_are : l ≡ area (event_words ts) event_word_count events
      events_are =
          ext_get_or 0 l (area (event_words ts) event_word_count events)
          (s.long ∙ sym (areas.area_length (event_words ts) 4 (event_size ts) event_word_count events
          (omega (arith, few)))) λ k h.
          elim (dec_lt (k / 4) (length events)) [
            | yes y ↦
                let e : k / 4 * 4 + k % 4 ≡ k = omega arith in
                ap (λ (n : ℕ). get_or l n 0) (sym e)
                ∙ word_at none_such (k / 4) (k % 4) y (omega arith)
                ∙ part_here none_such (k / 4) (k % 4) y (omega arith)
                ∙ sym (areas.word_is (event_words ts) 4 (event_size ts) event_word_count events (k / 4) (k % 4)
                none_such y (omega arith))
                ∙ ap (λ (n : ℕ). get_or (area (event_words ts) event_word_count events) n 0) e
            | no y ↦
                s.behind k (omega (arith, y, many))
                ∙ sym (word_behind (event_words ts) 4 (event_size ts) event_word_count events k (omega (arith, y)))
          ]
        where
          none_such : Event
          none_such = record { at = 0; input = Input.restart }

      module _ (d : Event) (k : ℕ) (h : k < length events) where
        abbrev v : Event
        v = get_or events k d

        -- the event's second and its input, as words
        words_here : EventWords ts l k v
        words_here = event_words_here ts l d events event_word_count events_are k h
            (lists.each_get_d (λ (v : Event). Fine ts v.input) events k d h (events_fine f i m acc o places))

        pub event_here : EventAt f x ts m l k v
        event_here =
            event_at f x ts m tb l k v
            (lists.each_get_d (λ (v : Event). check_input es v.input ≡ accept) events k d h (events_accepted f m acc))
            words_here.second words_here.input
