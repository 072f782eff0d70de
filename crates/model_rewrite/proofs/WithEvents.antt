-- The file with other events decodes to the model with those events, all else the same; and how long it is.
use mathlib.Core.Path.{◌≡◌, refl, sym, ap, ◌∙◌, subst}
use mathlib.Core.List.{List, [], ◌∷◌, ◌++◌, append_assoc, append-nil}
use mathlib.Core.Bool.{true}
use Prim.Native.Nat.{ℕ, zero, suc, ◌+◌, ◌*◌, ◌/◌, ◌%◌, ◌≤◌, ◌<◌}
use native.Mathlib.Omega.{arith}
use lib.ListN.{length, get_or, take, drop, length-append, length-drop}
use lib.Seq.{take_at, drop_at, length-take-le}
use lib.Dec.{ltb}
use borrow.Author.Tests.{lt-ltb, le-ltb}
use Rattle.texts.specs.Lists.{flat}
use Rattle.texts.specs.Texts.{Text}
use Rattle.model_spec.specs.Answer.{Answer, answer}
use Rattle.model_spec.specs.Notes.{notes_of}
use Rattle.model_spec.specs.Model.{Model, Event, Input, reload, with_events}
use Rattle.model_spec.specs.File.{
  got,
  refuse,
  require,
  u8,
  u16,
  u32,
  times,
  counted,
  kinds,
  texts,
  place,
  input,
  event,
  events,
  Head,
  head,
  ascending,
  model,
  decoded,
  decode,
  input_kinds,
}
use Rattle.model_spec.specs.Events.{Some, no_more, skip, keep}
use Rattle.model_spec.specs.Rewrite.{bytes2, bytes4, place_of, input_bytes, event_bytes, events_bytes, rewritten}
use Rattle.model_walk.proofs.Laws.{bind_got}
use Rattle.model_walk.proofs.Found.{
  bound,
  given,
  refused,
  kind_found,
  counted_found,
  place_found,
  u8_wide,
  u16_wide,
  u32_wide,
}
use Rattle.model_parts.specs.Stand.{Reads}
use Rattle.model_rewrite.proofs.Spelled.{
  Spells,
  spells_give,
  spells_bind,
  spells_last,
  spells_require,
  spells_u8,
  local_u32,
  local_counted,
  local_input,
  local_invariant,
  local_limits,
  local_automation,
}
use Rattle.model_rewrite.proofs.Behind.{Found, Twin, twin_give, twin_bind, twin_zeros, local_start}
use Rattle.model_rewrite.proofs.Opened.{Opened, opened, after, model_is}
use Rattle.model_rewrite.proofs.Refines.{
  place_is,
  head_ascends,
  first_part,
  start_inside,
  end_inside,
  rewritten_is,
  same_texts,
}

-- ---- what can be written

-- the text is among these
pub record Among (ts : List Text) (t : Text) : Type 0 where
  pub at : ℕ
  pub inside : at < length ts
  pub is_text : t ≡ get_or ts at []

abbrev pub FitsInput : List Text → Input → Type 0
FitsInput ts (Input.set x v) = Among ts x × Among ts v
FitsInput ts Input.restart = Unit {0}
FitsInput ts reload = Unit {0}

-- each event names texts of these
abbrev pub AllFit : List Text → List Event → Type 0
AllFit ts [] = Unit {0}
AllFit ts (v ∷ vs) = FitsInput ts v.input × AllFit ts vs

-- ---- the bytes of events are read back, whatever the numbers

pub spells_u16 : (n : ℕ) → Spells u16 n (bytes2 n)
unfolding u16 bytes2
spells_u16 n =
    let e : n % 256 + 256 * (n / 256) ≡ n = omega arith in
    subst (λ (x : ℕ). Spells u16 x (n % 256 ∷ n / 256 ∷ [])) e
    (spells_bind u8 _ (n % 256 ∷ []) (n / 256 ∷ []) (spells_u8 (n % 256))
    (spells_last u8 (λ b. n % 256 + 256 * b) (n / 256 ∷ []) (spells_u8 (n / 256))))

pub spells_u32 : (n : ℕ) → Spells u32 n (bytes4 n)
unfolding u32 bytes4
spells_u32 n =
    let e : n % 65536 + 65536 * (n / 65536) ≡ n = omega arith in
    subst (λ (x : ℕ). Spells u32 x (bytes2 (n % 65536) ++ bytes2 (n / 65536))) e
    (spells_bind u16 _ (bytes2 (n % 65536)) (bytes2 (n / 65536)) (spells_u16 (n % 65536))
    (spells_last u16 (λ b. n % 65536 + 65536 * b) (bytes2 (n / 65536)) (spells_u16 (n / 65536))))

module _ (ts : List Text) (asc : ascending ts ≡ true) where
  spells_place : (t : Text) → Among ts t → Spells (place ts) t (bytes2 (place_of t ts))
  unfolding place
  spells_place t a =
      let p : place_of t ts ≡ a.at = ap (λ (u : Text). place_of u ts) a.is_text ∙ place_is ts asc a.at a.inside in
      let s = spells_bind u16 (λ p. require (ltb p (length ts)) (get_or ts p [])) (bytes2 a.at) [] (spells_u16 a.at)
      (spells_require (ltb a.at (length ts)) (get_or ts a.at []) (lt-ltb a.at (length ts) a.inside)) in
      rw (p, a.is_text) (rw append-nil at s)

  spells_input : (i : Input) → FitsInput ts i → Spells (input ts) i (input_bytes ts i)
  unfolding input kinds input_bytes
  spells_input (Input.set x v) h =
      spells_bind u8 _ (0 ∷ []) (bytes2 (place_of x ts) ++ bytes2 (place_of v ts)) (spells_u8 0)
      (spells_bind (place ts) _ (bytes2 (place_of x ts)) (bytes2 (place_of v ts)) (spells_place x h.0)
      (spells_last (place ts) (Input.set x) (bytes2 (place_of v ts)) (spells_place v h.1)))
  spells_input Input.restart h = spells_bind u8 _ (1 ∷ []) [] (spells_u8 1) (spells_give Input.restart)
  spells_input reload h = spells_bind u8 _ (2 ∷ []) [] (spells_u8 2) (spells_give reload)

  spells_event : (v : Event) → FitsInput ts v.input → Spells (event ts) v (event_bytes ts v)
  unfolding event event_bytes
  spells_event v h =
      spells_bind u32 _ (bytes4 v.at) (input_bytes ts v.input) (spells_u32 v.at)
      (spells_last (input ts) (λ i. record { at = v.at; input = i }) (input_bytes ts v.input)
      (spells_input v.input h))

  spells_times : (vs : List Event) → AllFit ts vs → Spells (times (length vs) (event ts)) vs (flat (event_bytes ts) vs)
  unfolding times flat
  spells_times [] h = spells_give []
  spells_times (v ∷ vs) h =
      spells_bind (event ts) _ (event_bytes ts v) (flat (event_bytes ts) vs) (spells_event v h.0)
      (spells_last (times (length vs) (event ts)) (λ l. v ∷ l) (flat (event_bytes ts) vs) (spells_times vs h.1))

  spells_events : (vs : List Event) → AllFit ts vs → Spells (counted (event ts)) vs (events_bytes ts vs)
  unfolding counted events_bytes
  spells_events vs h =
      spells_bind u16 _ (bytes2 (length vs)) (flat (event_bytes ts) vs) (spells_u16 (length vs)) (spells_times vs h)

-- ---- what follows the events is read as before

after_twin : (h : Head) (old vs : List Event) → Twin (after h old) (after h vs) (with_events vs)
unfolding after
after_twin h old vs =
    twin_bind _ _ _ _ (local_counted _ (local_invariant h.texts)) λ is.
    twin_bind _ _ _ _ (local_counted _ (local_input h.texts)) λ al.
    twin_bind _ _ _ _ (local_counted _ local_u32) λ gs.
    twin_bind _ _ _ _ local_limits λ ls.
    twin_bind _ _ _ _ (local_counted _ (local_automation h.texts)) λ rs.
    twin_zeros _ _ _ _ _ local_start λ st.
    twin_give _ _

module _ (f : List ℕ) (m : Model) (o : Opened f m) where
  abbrev ts : List Text
  ts = o.h.texts

  -- ---- the file with other events is read back

  start_bytes : take o.start f ≡ (first_part f m o).bytes
  start_bytes =
      let x = first_part f m o in
      ap (take o.start) x.stands ∙ take_at x.bytes (drop o.start f) o.start (omega (arith, x.ends))

  module _ (vs : List Event) where
    -- what stands before the rest
    abbrev before : List ℕ
    before = (first_part f m o).bytes ++ events_bytes ts vs

    new_bytes : rewritten f vs ≡ before ++ drop o.end f
    new_bytes = rewritten_is f m o vs ∙ rw start_bytes

    -- the rest is read as it was
    rest_found : Found (after o.h vs) (rewritten f vs) o.end (length before) (with_events vs m) o.last
    rest_found =
        after_twin o.h m.scenario.events vs f (rewritten f vs) o.end (length before)
        (sym (ap (drop (length before)) new_bytes ∙ drop_at before (drop o.end f) (length before) refl))
        m o.last o.is_after

    module _ (fit : AllFit ts vs) where
      new_model : model (rewritten f vs) 0 ≡ got (with_events vs m) (length before + rest_found.count)
      unfolding events
      new_model =
          let n = (first_part f m o).bytes in
          let g = rewritten f vs in
          let h = (first_part f m o).spells g 0 (events_bytes ts vs ++ drop o.end f)
          (new_bytes ∙ append_assoc n (events_bytes ts vs) (drop o.end f)) in
          let v = spells_events ts (head_ascends f m o) vs fit g (length n) (drop o.end f)
          (ap (drop (length n)) (new_bytes ∙ append_assoc n (events_bytes ts vs) (drop o.end f))
          ∙ drop_at n (events_bytes ts vs ++ drop o.end f) (length n) refl) in
          model_is g 0
          ∙ bind_got head _ (h ∙ ap (got o.h) (omega arith))
          ∙ bind_got (counted (event ts)) (λ evs. after o.h evs)
          (v ∙ ap (got vs) (sym (length-append n (events_bytes ts vs))))
          ∙ rest_found.again

      -- up to its end
      new_whole : length (rewritten f vs) ≤ length before + rest_found.count
      new_whole =
          omega (
            arith,
            ap length new_bytes,
            length-append before (drop o.end f),
            length-drop o.end f,
            end_inside f m o,
            rest_found.ends,
            o.whole,
          )

notes_same : (vs : List Event) (m : Model) → notes_of (with_events vs m) ≡ notes_of m
unfolding notes_of
notes_same vs m = refl

-- a file's notes stay, so that the new file decodes if it is not too long
pub decodes : (f : List ℕ) (m : Model) → decode f ≡ answer m → (ts : List Text) → Reads texts f 4 ts → (vs : List Event) →
    AllFit ts vs → length (rewritten f vs) ≤ 32768 → decode (rewritten f vs) ≡ answer (with_events vs m)
unfolding decode decoded
decodes f m dec ts r vs fit h =
    let o = opened f m dec in
    let w = subst (λ (l : List Text). AllFit l vs) (same_texts f m o ts r) fit in
    let n : length (notes_of (with_events vs m)) ≤ 64 = rw notes_same o.few_notes in
    rw (le-ltb 32768 (length (rewritten f vs)) h, new_model f m o vs w, decoded)
    (rw (
      le-ltb 64 (length (notes_of (with_events vs m))) n,
      le-ltb (length (before f m o vs) + (rest_found f m o vs).count) (length (rewritten f vs)) (new_whole f m o vs w),
    ))

-- a longer one is not read
pub too_long : (f : List ℕ) (vs : List Event) → 32768 < length (rewritten f vs) → decode (rewritten f vs) ≡ Answer.refused 30
unfolding decode
too_long f vs h = rw (lt-ltb 32768 (length (rewritten f vs)) h)

-- ---- how long it is

module _ (ts : List Text) where
  event_size : (v : Event) → length (event_bytes ts v) ≤ 9
  unfolding event_bytes input_bytes bytes4 bytes2
  event_size v = cases v.input
    where
      cases : (i : Input) → length (bytes4 v.at ++ input_bytes ts i) ≤ 9
      cases (Input.set x y) = omega arith
      cases Input.restart = omega arith
      cases reload = omega arith

  more_size : (v : Event) (vs : List Event) → length (flat (event_bytes ts) (v ∷ vs))
      ≡ length (event_bytes ts v) + length (flat (event_bytes ts) vs)
  unfolding flat
  more_size v vs = length-append (event_bytes ts v) (flat (event_bytes ts) vs)

  section_size : (vs : List Event) → length (events_bytes ts vs) ≡ 2 + length (flat (event_bytes ts) vs)
  unfolding events_bytes bytes2
  section_size vs = length-append (bytes2 (length vs)) (flat (event_bytes ts) vs)

  at_most : (vs : List Event) → length (flat (event_bytes ts) vs) ≤ 9 * length vs
  unfolding flat
  at_most [] = omega arith
  at_most (v ∷ vs) = omega (arith, more_size v vs, event_size v, at_most vs)

  some_size : {l m : List Event} → Some l m → length (flat (event_bytes ts) l) ≤ length (flat (event_bytes ts) m)
  some_size no_more = omega arith
  some_size (skip {x} {l} {m} a) = omega (arith, more_size x m, some_size a)
  some_size (keep {x} {l} {m} a) = omega (arith, more_size x m, more_size x l, some_size a)

  -- a reader of events takes as many bytes as are written

  input_read : (s : List ℕ) (p : ℕ) (v : Input) (q : ℕ) → input ts s p ≡ got v q → q ≡ p + length (input_bytes ts v)
  unfolding input input_bytes bytes2
  input_read s p v q h =
      let k = kind_found (input_kinds ts) h in
      cases k.kind k.next (u8_wide s p k.is_kind).ends k.holds
    where
      cases : (n o : ℕ) → o ≡ p + 1 → get_or (input_kinds ts) n refuse s o ≡ got v q → q ≡ p + length (input_bytes ts v)
      cases zero o w y =
          let a = bound (place ts) _ y in
          let b = bound (place ts) _ a.rest in
          let g = given _ _ _ b.rest in
          let u = (u16_wide s o (place_found ts a.first).is_place).ends in
          let x = (u16_wide s a.next (place_found ts b.first).is_place).ends in
          subst (λ (i : Input). q ≡ p + length (input_bytes ts i)) g.0 (omega (arith, w, u, x, g.1))
      cases (suc zero) o w y = let g = given _ _ _ y in
          subst (λ (i : Input). q ≡ p + length (input_bytes ts i)) g.0 (omega (arith, w, g.1))
      cases (suc (suc zero)) o w y = let g = given _ _ _ y in
          subst (λ (i : Input). q ≡ p + length (input_bytes ts i)) g.0 (omega (arith, w, g.1))
      cases (suc (suc (suc n))) o w y = absurd (refused s o y)

  event_read : (s : List ℕ) (p : ℕ) (v : Event) (q : ℕ) → event ts s p ≡ got v q → q ≡ p + length (event_bytes ts v)
  unfolding event event_bytes bytes4 bytes2
  event_read s p v q h =
      let a = bound u32 _ h in
      let b = bound (input ts) _ a.rest in
      let g = given _ _ _ b.rest in
      let n = length-append (bytes4 a.value) (input_bytes ts b.value) in
      subst (λ (x : Event). q ≡ p + length (event_bytes ts x)) g.0
      (omega (arith, (u32_wide s p a.first).ends, input_read s a.next b.value b.next b.first, g.1, n))

  times_read : (s : List ℕ) (n p : ℕ) (l : List Event) (q : ℕ) → times n (event ts) s p ≡ got l q →
      q ≡ p + length (flat (event_bytes ts) l)
  unfolding times flat
  times_read s zero p l q h = let g = given s p [] h in
      subst (λ (x : List Event). q ≡ p + length (flat (event_bytes ts) x)) g.0 (omega (arith, g.1))
  times_read s (suc n) p l q h =
      let a = bound (event ts) _ h in
      let b = bound (times n (event ts)) _ a.rest in
      let g = given _ _ _ b.rest in
      subst (λ (x : List Event). q ≡ p + length (flat (event_bytes ts) x)) g.0
      (omega (
        arith,
        event_read s p a.value a.next a.first,
        times_read s n a.next b.value b.next b.first,
        g.1,
        more_size a.value b.value,
      ))

  events_read : (s : List ℕ) (p : ℕ) (l : List Event) (q : ℕ) → counted (event ts) s p ≡ got l q →
      q ≡ p + length (events_bytes ts l)
  events_read s p l q h =
      let c = counted_found (event ts) h in
      omega (arith, (u16_wide s p c.is_count).ends, times_read s c.count c.start l q c.are_values, section_size l)

-- the new file's length
new_size : (f : List ℕ) (m : Model) (o : Opened f m) (vs : List Event) →
    length (rewritten f vs) + length (events_bytes o.h.texts m.scenario.events)
    ≡ length f + length (events_bytes o.h.texts vs)
unfolding events
new_size f m o vs =
    let n = length-append (take o.start f ++ events_bytes o.h.texts vs) (drop o.end f) in
    let a = length-append (take o.start f) (events_bytes o.h.texts vs) in
    let t = length-take-le o.start f (start_inside f m o) in
    let d = length-drop o.end f in
    let e = events_read o.h.texts f o.start m.scenario.events o.end o.are_events in
    omega (arith, ap length (rewritten_is f m o vs), n, a, t, d, e, end_inside f m o)

-- at most 5 events: at most 45 bytes more
pub few_events : (f : List ℕ) (m : Model) → decode f ≡ answer m → (vs : List Event) → length vs ≤ 5 →
    length (rewritten f vs) ≤ length f + 45
few_events f m dec vs h =
    let o = opened f m dec in
    let ts = o.h.texts in
    omega (arith, new_size f m o vs, section_size ts vs, section_size ts m.scenario.events, at_most ts vs)

-- some of the file's events: no byte more
pub some_events : (f : List ℕ) (m : Model) → decode f ≡ answer m → (vs : List Event) → Some vs m.scenario.events →
    length (rewritten f vs) ≤ length f
some_events f m dec vs h =
    let o = opened f m dec in
    let ts = o.h.texts in
    omega (arith, new_size f m o vs, section_size ts vs, section_size ts m.scenario.events, some_size ts h)
