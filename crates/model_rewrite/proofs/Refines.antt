-- The bytes of events that stand as words are those of the definition, and so is the file with them.
use Rattle.std.specs.Prelude.{Some}
use mathlib.Core.Path.{◌≡◌, refl, sym, ap, ◌∙◌, subst}
use mathlib.Core.List.{List, [], ◌∷◌, ◌++◌, append_assoc, append-nil}
use mathlib.Core.Bool.{true}
use Prim.Native.Nat.{ℕ, zero, suc, ◌+◌, ◌*◌, ◌≤◌, ◌<◌}
use native.Mathlib.Omega.{arith}
use lib.ListN.{length, get_or, take, drop, length-append, length-drop}
use lib.Seq.{take-suc, take_all}
use borrow.Author.Tests.{eq-eqb, ne_eqb}
use Rattle.texts.specs.Lists.{flat}
use Rattle.texts.specs.Texts.{Text}
use Rattle.model_spec.specs.Answer.{answer}
use Rattle.model_spec.specs.Model.{Model, Entity, Event, Input, reload}
use Rattle.model_spec.specs.File.{
  got,
  Reader,
  u8,
  times,
  counted,
  one_text,
  texts,
  place,
  entity,
  entities,
  event,
  events,
  head,
  ascending,
  decode,
}
use Rattle.model_spec.specs.Events.{InputWords, EventWords}
use Rattle.model_spec.specs.Rewrite.{bytes2, bytes4, place_of, input_bytes, event_bytes, events_bytes, rewritten}
use Rattle.model_spec.proofs.Places.{place_first}
use Rattle.model_walk.specs.Walk.{capped, seen, Walk, place_m}
use Rattle.model_walk.proofs.Found.{bound, given, required, counted_found, u8_wide}
use Rattle.model_walk.proofs.Refines.{Sees, quiet, sees_counted, sees_place}
use Rattle.model_parts.specs.Parts.{part_m, section_m, text_m, entity_m, event_m}
use Rattle.model_parts.specs.Stand.{Reads}
use Rattle.model_parts.proofs.Refines.{sees_text, sees_entity, sees_event}
use Rattle.model_parts.proofs.Stands.{section_ends, section_counts}
use Rattle.model_order.proofs.Places.{same_place}
use Rattle.model_index.specs.declared.Index.{Index}
use Rattle.model_index.specs.Indexed.{Indexed}
use Rattle.model_index.proofs.Refines.{and_true}
use Rattle.model_rewrite.specs.declared.Span.{Span}
use Rattle.model_rewrite.specs.Span.{behind, body_m, span_m}
use Rattle.model_rewrite.specs.Written.{
  event_start,
  two_places,
  event_of,
  event_at,
  first_events,
  section_bytes,
  file_with,
  EventFits,
  Room,
  Wrote,
}
use Rattle.model_rewrite.proofs.Spelled.{
  Spelled,
  local_u8,
  local_times,
  local_place,
  local_entities,
  local_counted,
  local_event,
  local_head,
}
use Rattle.model_rewrite.proofs.Opened.{Opened, opened, Headed, headed}

-- ---- places of texts

-- texts ascend, so a text's place is where it stands
pub place_is : (ts : List Text) → ascending ts ≡ true → (k : ℕ) → k < length ts → place_of (get_or ts k []) ts ≡ k
place_is ts a k h =
    place_first (get_or ts k []) ts k h (same_place ts a k k h h ∙ eq-eqb k k refl)
    (λ j o. same_place ts a k j h (omega arith) ∙ ne_eqb k j (λ e. absurd (omega arith)))

-- ---- events

-- the numbers of events that stand as words fit their bytes
pub event_fits : (ts : List Text) → length ts ≤ 65536 → (l : List ℕ) (k : ℕ) (v : Event) → EventWords ts l k v →
    EventFits l k
event_fits ts few l k v w = cases v.input w.input
  where
    plain : (n : ℕ) → n < 3 → get_or l (k * 4 + 1) 0 ≡ suc n → EventFits l k
    plain n h y = record {
      kind = omega (arith, y);
      entity = λ z. absurd (omega (arith, y, z));
      value = λ z. absurd (omega (arith, y, z));
    }

    cases : (i : Input) → InputWords ts (get_or l (k * 4 + 1) 0) (get_or l (k * 4 + 2) 0) (get_or l (k * 4 + 3) 0) i →
        EventFits l k
    cases (Input.set a b) y = record {
      kind = omega (arith, y.0);
      entity = λ z. omega (arith, y.1.0.0);
      value = λ z. omega (arith, y.1.1.0);
    }
    cases Input.restart y = plain 0 (omega arith) y
    cases reload y = plain 1 (omega arith) y

module _ (ts : List Text) (asc : ascending ts ≡ true) where
  input_agrees : (s k e v : ℕ) (i : Input) → InputWords ts k e v i → event_of s k e v ≡ bytes4 s ++ input_bytes ts i
  unfolding event_of event_start two_places input_bytes bytes4 bytes2
  input_agrees s k e v (Input.set a b) w =
      let pa : place_of a ts ≡ e = ap (λ (t : Text). place_of t ts) w.1.0.1 ∙ place_is ts asc e w.1.0.0 in
      let pb : place_of b ts ≡ v = ap (λ (t : Text). place_of t ts) w.1.1.1 ∙ place_is ts asc v w.1.1.0 in
      rw (w.0, pa, pb)
  input_agrees s k e v Input.restart w = rw w
  input_agrees s k e v reload w = rw w

  event_agrees : (l : List ℕ) (k : ℕ) (v : Event) → EventWords ts l k v → event_at l k ≡ event_bytes ts v
  unfolding event_at event_bytes
  event_agrees l k v w =
      input_agrees (get_or l (k * 4) 0) (get_or l (k * 4 + 1) 0) (get_or l (k * 4 + 2) 0) (get_or l (k * 4 + 3) 0) v.input
      w.input
      ∙ ap (λ (x : ℕ). bytes4 x ++ input_bytes ts v.input) w.second

  flat_end : (g : Event → List ℕ) (vs : List Event) (v : Event) → flat g (vs ++ (v ∷ [])) ≡ flat g vs ++ g v
  unfolding flat
  flat_end g [] v = append-nil (g v)
  flat_end g (x ∷ vs) v = rw (flat_end g vs v) (sym (append_assoc (g x) (flat g vs) (g v)))

  module _ (l : List ℕ) (d : Event) (vs : List Event) (ws : (k : ℕ) → k < length vs → EventWords ts l k (get_or vs k d)) where
    first_agrees : (k : ℕ) → k ≤ length vs → first_events l k ≡ flat (event_bytes ts) (take k vs)
    unfolding first_events flat
    first_agrees zero h = refl
    first_agrees (suc k) h =
        rw (first_agrees k (omega arith), event_agrees l k (get_or vs k d) (ws k (omega arith)), take-suc vs k d (omega arith))
        (sym (flat_end (event_bytes ts) (take k vs) (get_or vs k d)))

    pub section_agrees : section_bytes l (length vs) ≡ events_bytes ts vs
    unfolding section_bytes events_bytes
    section_agrees = rw (first_agrees (length vs) (omega arith), take_all (length vs) vs (omega arith))

-- ---- where the events stand

-- as many values as the count says
pub times_length : {A : Type 0} (r : Reader A) (s : List ℕ) (n p : ℕ) (l : List A) (q : ℕ) → times n r s p ≡ got l q →
    length l ≡ n
unfolding times
times_length r s zero p l q e = ap length (sym (given s p [] e).0)
times_length r s (suc n) p l q e =
    let x = bound r _ e in
    let y = bound (times n r) _ x.rest in
    ap length (sym (given _ _ _ y.rest).0) ∙ ap suc (times_length r s n x.next y.value y.next y.first)

module _ {A : Type 0} (r : Reader A) (k : Walk) (e : Sees quiet r k) (s : List ℕ) (p : ℕ) {l : List A} {q : ℕ}
    (h : counted r s p ≡ got l q) where
  section_end : (section_m k s p 0).end ≡ Some (q, 0)
  unfolding seen capped
  section_end = section_ends k s p 0 ∙ sees_counted quiet quiet refl (λ x l. refl) r k e 0 s p ∙ ap (seen quiet 0) h

  section_count : (section_m k s p 0).count ≡ length l
  section_count = let x = counted_found r h in section_counts k s p 0 x.is_count
      ∙ sym (times_length r s x.count x.start l q x.are_values)

-- the texts, and that they ascend
pub texts_found : (s : List ℕ) (p : ℕ) {ts : List Text} {q : ℕ} → texts s p ≡ got ts q →
    (counted one_text s p ≡ got ts q) × (ascending ts ≡ true)
unfolding texts
texts_found s p e =
    let x = bound (counted one_text) _ e in
    let g = required _ _ _ _ x.rest in
    let h = x.first in
    let u = g.1.0 in
    let w = g.1.1 in
    ((cc), subst (λ (l : List Text). ascending l ≡ true) g.1.0 (and_true _ _ g.0))

entities_found : (ts : List Text) (s : List ℕ) (p : ℕ) {es : List Entity} {q : ℕ} → entities ts s p ≡ got es q →
    counted (entity ts) s p ≡ got es q
unfolding entities
entities_found ts s p e =
    let x = bound (counted (entity ts)) _ e in
    let g = required _ _ _ _ x.rest in
    let h = x.first in
    let u = g.1.0 in
    let w = g.1.1 in
    cc

place_end : (ts : List Text) (s : List ℕ) (p : ℕ) {t : Text} {q : ℕ} → place ts s p ≡ got t q →
    place_m (length ts) s p 0 ≡ Some (q, 0)
unfolding seen capped
place_end ts s p h = sees_place ts 0 s p ∙ ap (seen quiet 0) h

-- ---- how many texts there are
-- each value takes a byte or more
grows : {A : Type 0} (r : Reader A) (s : List ℕ) → ((p : ℕ) (a : A) (q : ℕ) → r s p ≡ got a q → p + 1 ≤ q) →
    (n p : ℕ) (l : List A) (q : ℕ) → times n r s p ≡ got l q → p + n ≤ q
unfolding times
grows r s f zero p l q e = omega (arith, (given s p [] e).1)
grows r s f (suc n) p l q e =
    let x = bound r _ e in
    let y = bound (times n r) _ x.rest in
    omega (
      arith,
      f p x.value x.next x.first,
      grows r s f n x.next y.value y.next y.first,
      (given _ _ _ y.rest).1,
    )

text_grows : (s : List ℕ) (p : ℕ) (t : Text) (q : ℕ) → one_text s p ≡ got t q → p + 1 ≤ q
unfolding one_text
text_grows s p t q e =
    let x = bound u8 _ e in
    let y = bound (times x.value u8) _ x.rest in
    omega (
      arith,
      (u8_wide s p x.first).ends,
      (local_times u8 local_u8 x.value s x.next y.value y.next
          y.first).ends,
      (required _ _ _ _ y.rest).1.1,
    )

module _ (f : List ℕ) (m : Model) (o : Opened f m) where
  abbrev ts : List Text
  ts = o.h.texts

  pub parted : Headed f o.h o.start
  parted = headed f o.h o.start o.is_head

  pub head_ascends : ascending ts ≡ true
  head_ascends = (texts_found f 4 parted.are_texts).1

  body_agrees : body_m f (length ts) parted.at_title ≡ record { start = o.start; end = o.end }
  unfolding body_m behind part_m events
  body_agrees =
      rw (place_end ts f parted.at_title parted.is_title, behind)
      (rw (
        section_end (entity ts) (entity_m (length ts)) (sees_entity ts) f parted.at_entities
            (entities_found ts f parted.at_entities parted.are_entities),
        behind,
      )
      (rw (section_end (event ts) (event_m (length ts)) (sees_event ts) f o.start o.are_events, behind)))

  pub span_agrees : span_m f ≡ record { start = o.start; end = o.end }
  unfolding span_m behind part_m
  span_agrees =
      rw (section_end one_text text_m sees_text f 4 (texts_found f 4 parted.are_texts).0, behind)
      (rw (section_count one_text text_m sees_text f 4 (texts_found f 4 parted.are_texts).0) body_agrees)

  -- ---- and that they stand in the file

  within : {A : Type 0} {r : Reader A} {p q : ℕ} {a : A} → Spelled r f p a q → p ≤ length f → q ≤ length f
  within {p = p} {q = q} x h = omega (
    arith,
    x.ends,
    length-drop p f,
    length-drop q f,
    ap length x.stands,
    length-append x.bytes (drop q f),
  )

  pub first_part : Spelled head f 0 o.h o.start
  first_part = local_head f 0 o.h o.start o.is_head

  pub events_part : Spelled (events o.h) f o.start m.scenario.events o.end
  unfolding events
  events_part = local_counted (event ts) (local_event ts) f o.start m.scenario.events o.end o.are_events

  pub start_inside : o.start ≤ length f
  start_inside = within first_part (omega arith)

  pub end_inside : o.end ≤ length f
  end_inside = within events_part start_inside

  few_texts : length ts ≤ 65536
  few_texts =
      let h = parted in
      let c = counted_found one_text (texts_found f 4 h.are_texts).0 in
      let n = times_length one_text f c.count c.start ts h.at_title c.are_values in
      let g = grows one_text f (text_grows f) c.count c.start ts h.at_title c.are_values in
      let t = (local_place ts f h.at_title o.h.title h.at_entities h.is_title).ends in
      let e = (local_entities ts f h.at_entities o.h.entities o.start h.are_entities).ends in
      omega (arith, n, g, t, e, start_inside, o.small)

  pub rewritten_is : (vs : List Event) → rewritten f vs ≡ take o.start f ++ events_bytes ts vs ++ drop o.end f
  unfolding rewritten
  rewritten_is vs = rw (o.is_head, rewritten) (rw (o.are_events, rewritten))

  -- the texts that an index names are the file's
  pub same_texts : (l : List Text) → Reads texts f 4 l → l ≡ ts
  same_texts l r = let a = r.1 in let b = parted.are_texts in cc

-- ---- of a file that decodes

module _ (f : List ℕ) (m : Model) (i : Index) (dec : decode f ≡ answer m) (x : Indexed f i m)
    (l : List ℕ) (d : Event) (vs : List Event) (ws : (k : ℕ) → k < length vs → EventWords x.ts l k (get_or vs k d)) where
  -- what `rewrite` writes, at the place that `events_in` finds, is the file with these events
  pub file_agrees : file_with f (span_m f) l (length vs) ≡ rewritten f vs
  unfolding file_with
  file_agrees =
      let o = opened f m dec in
      let t = same_texts f m o x.ts x.all_texts in
      let w = subst (λ (ts : List Text). (k : ℕ) → k < length vs → EventWords ts l k (get_or vs k d)) t ws in
      rw (span_agrees f m o, section_agrees o.h.texts (head_ascends f m o) l d vs w) (sym (rewritten_is f m o vs))

  few : length x.ts ≤ 65536
  few = let o = opened f m dec in omega (arith, ap length (same_texts f m o x.ts x.all_texts), few_texts f m o)

  module _ {s : Span} {n : ℕ} (is-span : s ≡ span_m f) (many : n ≡ length vs) where
    -- what `rewrite` asks for holds where the new file has room
    pub asked : (o : List ℕ) → n * 4 ≤ length l → n < 65536 → length (rewritten f vs) ≤ length o → Room f s l n o
    asked o h c r =
        let y = opened f m dec in
        let p : (s.start ≤ s.end) × (s.end ≤ length f) =
        rw (is-span, span_agrees f m y) (omega (arith, (events_part f m y).ends), end_inside f m y) in
        record {
          ordered = p.0;
          inside = p.1;
          events = record {
            words = h;
            count = c;
            each = λ k b. event_fits x.ts few l k (get_or vs k d) (ws k (omega (arith, many)));
          };
          room = rw (is-span, many, file_agrees) r;
        }

    pub told : {r : ℕ} {o e : List ℕ} → Wrote (file_with f s l n) r o e → Wrote (rewritten f vs) r o e
    told {r} {o} {e} w = subst (λ (b : List ℕ). Wrote b r o e) (rw (is-span, many) file_agrees) w
