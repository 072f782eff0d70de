-- Each listing adds the reasons of the part that the reader of `File` finds at its position.
use Rattle.std.specs.Prelude.{Some, if◌then◌else◌}
use mathlib.Core.Path.{◌≡◌, refl, sym, ap, ◌∙◌}
use mathlib.Core.List.{List, [], ◌∷◌, ◌++◌, append-nil, append_assoc}
use mathlib.Core.Option.{Option, none, some}
use Prim.Native.Nat.{ℕ, zero, suc, ◌-◌, ◌≤◌, ◌<◌}
use native.Mathlib.Omega.{arith}
use native.Mathlib.Decide.{dec_lt}
use lib.ListN.{length, get_or}
use lib.Dec.{eqb}
use borrow.Author.Tests.{lt-ltb, le-ltb, ne_eqb}
use Rattle.texts.specs.Lists.{listed, each, flat}
use Rattle.texts.specs.Texts.{Text, text}
use Rattle.texts.specs.Places.{text_at, start_from}
use Rattle.model_spec.specs.Model.{Predicate, state, window}
use Rattle.model_spec.specs.File.{◌>>=◌ as ◌>>=ᵣ◌}
use Rattle.model_spec.specs.File.{got, Reader, give, refuse, u8, u16, u32, times, counted, place, predicate, trigger}
use Rattle.model_spec.specs.Notes.{of_predicate, of_trigger}
use Rattle.model_walk.specs.Walk.{found, predicate_size}
use Rattle.model_walk.proofs.Found.{
  bound,
  given,
  Wide,
  wide_sum,
  u8_wide,
  u16_wide,
  u8_value,
  source_wide,
  counted_found,
  Kind,
  kind_found,
  place_found,
  predicate_wide,
  Value?,
  Place?,
  trigger_found,
}
use Rattle.model_walk.proofs.Found as found
use Rattle.model_walk.proofs.Laws.{size_some}
use Rattle.reasons.specs.Kinds as kinds
use Rattle.reasons.specs.Reasons.{words, body, render}
use Rattle.reasons.specs.Readable.{text_count}
use Rattle.engine_fields.specs.Fields.{cap, text_position, note_reason}
use Rattle.engine_notes.specs.declared.Part.TheVariants as part
use Rattle.engine_notes.specs.Listing.{
  After,
  after,
  Listing,
  ◌⨾◌,
  by,
  stay,
  skip_m,
  times_m,
  id_note,
  note_of,
  add_note_m,
  add_m,
  note_m,
  trigger_m,
  predicate_m,
  part_m,
  parts_m,
}
use Rattle.engine_notes.proofs.Laws as laws
use Rattle.engine_notes.proofs.Adding.{add_all, add_both, flat_one, flat_each}

-- ---- one listing after the other

module _ (f : List ℕ) (p : ℕ) (l : List Text) where
  pub by_got : (r : Reader ℕ) (k : ℕ → Listing) {v q : ℕ} → r f p ≡ got v q → by r k f p l ≡ k v f q l
  unfolding found
  by_got r k {v} {q} e = laws.by_is f p l r k {x = Some (v, q)} (sym e) refl

  pub next : (k m : Listing) {q : ℕ} {t : List Text} → k f p l ≡ after q t → (k ⨾ m) f p l ≡ m f q t
  unfolding ◌⨾◌
  next k m e = ap (λ (y : After). m f y.next y.list) e

  pub skips : (w : ℕ) {q : ℕ} → Wide w f p q → skip_m w f p l ≡ after q l
  unfolding skip_m
  skips w h = ap (λ (y : ℕ). after y l) (sym (laws.skip_in w f p h.inside) ∙ sym h.ends)

pub after_same : (q : ℕ) {a b : List Text} → a ≡ b → after q a ≡ after q b
after_same q e = ap (after q) e

-- ---- texts

past : (f : List ℕ) (at : ℕ) → length f ≤ at → get_or f at 0 ≡ 0
past [] zero h = refl
past [] (suc at) h = refl
past (x ∷ f) zero h = absurd (omega arith)
past (x ∷ f) (suc at) h = past f at (omega arith)

text_past : (f : List ℕ) (at : ℕ) → length f ≤ at → text_at f at ≡ []
unfolding text_at
text_past f at h = rw (past f at h)

note_words : words kinds.note ≡ []
unfolding words
note_words = refl

id_words : words kinds.id_note_kind ≡ text ": "
unfolding words
id_words = refl

-- where the reader finds a value, the listing adds the value's reasons and ends where the reader ends
abbrev pub Adds : (f : List ℕ) {A : Type 0} → Reader A → (A → List Text) → Listing → Type 0
Adds f {A} r h k = (p : ℕ) (l : List Text) (a : A) (q : ℕ) → r f p ≡ got a q → k f p l ≡ after q (add_all (h a) l)

-- the notes of an identifier are rendered so
abbrev pub Renders : (f : List ℕ) → (ts : List Text) → ℕ → (Text → Text) → Type 0
Renders f ts i g = (m : ℕ) → m < length ts → render f (note_of f i m) ≡ g (get_or ts m [])

-- the file f, with the texts ts
module _ (f : List ℕ) (ts : List Text) (size : length f ≤ 32768) (few : length ts ≤ 65535)
    (counted_as : text_count f ≡ length ts)
    (placed_text : (k : ℕ) → k < length ts → text_at f (start_from f 6 k) ≡ get_or ts k []) where
  abbrev T : ℕ → Text
  T k = get_or ts k []

  pub nothing : text_at f 4294967295 ≡ []
  nothing = text_past f 4294967295 (omega arith)

  cap_text : (p : ℕ) → text_at f (cap p) ≡ text_at f p
  unfolding cap
  cap_text p = elim (dec_lt 4294967295 p) [
    | yes h ↦ rw (lt-ltb 4294967295 p h) (nothing ∙ sym (text_past f p (omega arith)))
    | no h ↦ rw (le-ltb 4294967295 p (omega arith))
  ]

  pub position_text : (k : ℕ) → k < length ts → text_at f (text_position f k) ≡ T k
  unfolding text_position
  position_text k h = rw (lt-ltb k (text_count f) (omega arith)) (cap_text (start_from f 6 k) ∙ placed_text k h)

  pub plain_note : (m : ℕ) → m < length ts → render f (note_of f 65535 m) ≡ T m
  unfolding note_of note_reason render body
  plain_note m h = rw (position_text m h, note_words, nothing) (append-nil (T m))

  id_text : (i m : ℕ) → i < length ts → m < length ts → render f (id_note f i m) ≡ T i ++ (text ": " ++ T m)
  unfolding id_note render body
  id_text i m g h = rw (position_text i g, id_words, position_text m h)

  pub id_note_lem : (i m : ℕ) → i < length ts → m < length ts → render f (note_of f i m) ≡ T i ++ text ": " ++ T m
  id_note_lem i m g h =
      ap (render f) (sym (laws.note_id f i m (λ e. omega arith) refl))
      ∙ id_text i m g h
      ∙ sym (append_assoc (T i) (text ": ") (T m))

  pub place_wide : (p : ℕ) {t : Text} {q : ℕ} → place ts f p ≡ got t q → Wide 2 f p q
  place_wide p e = u16_wide f p (place_found ts e).is_place

  -- ---- parts that hold no list: a note m of a part is rendered as g of its text
  module _ (i : ℕ) (g : Text → Text) (is : Renders f ts i g) where
    added : (m : ℕ) (l : List Text) → m < length ts → add_note_m f i m l ≡ add_all (g (T m) ∷ []) l
    unfolding add_note_m add_all
    added m l h = rw (ne_eqb m 65535 (λ e. absurd (omega arith)), is m h)

    note_agrees : Adds f (place ts) (λ t. g t ∷ []) (note_m i)
    unfolding note_m add_m
    note_agrees p l t q e =
        let a = place_found ts e in
        by_got f p l u16 (add_m i) a.is_place
        ∙ after_same q (added a.at l a.is_in ∙ ap (λ (y : Text). add_all (g y ∷ []) l) (sym a.is_text))

    value_agrees : (m : ℕ) (o : Option Text) (l : List Text) → Value? ts m o →
        add_note_m f i m l ≡ add_all (each g (listed o)) l
    unfolding each listed add_all
    value_agrees m none l (found.absent h) = sym (laws.add_none f i m l h)
    value_agrees m (some t) l (found.present h k) = added m l k

    note?_agrees : (p : ℕ) (l : List Text) (o : Option Text) (q : ℕ) → Place? ts f p o q →
        note_m i f p l ≡ after q (add_all (each g (listed o)) l)
    unfolding note_m add_m
    note?_agrees p l o q a =
        by_got f p l u16 (add_m i) a.is_place
        ∙ after_same q (value_agrees a.at o l a.is_value)

    pub trigger_agrees : Adds f (trigger ts) (λ t. each g (of_trigger t)) (trigger_m i)
    unfolding trigger_m of_trigger
    trigger_agrees p l t q e =
        let a = trigger_found ts e in
        let to = wide_sum (u16_wide f a.at_to a.to_at.is_place) (source_wide f a.at_source a.source_at) in
        let from = wide_sum (u16_wide f a.at_from a.from_at.is_place) to in
        let w = wide_sum (u16_wide f p a.entity_at.is_place) from in
        next f p l (skip_m 14) (note_m i) (skips f p l 14 w) ∙ note?_agrees a.at_note l t.note q a.note_at

    state_adds : (x v : Text) (l : List Text) → l ≡ add_all (each g (of_predicate (state x v))) l
    unfolding each of_predicate add_all
    state_adds x v l = refl

    window_adds : (d b e : ℕ) (l : List Text) → l ≡ add_all (each g (of_predicate (window d b e))) l
    unfolding each of_predicate add_all
    window_adds d b e l = refl

    unknown_adds : (t : Text) (l : List Text) →
        add_all (g t ∷ []) l ≡ add_all (each g (of_predicate (Predicate.unknown t))) l
    unfolding each of_predicate
    unknown_adds t l = refl

    pub predicate_agrees : Adds f (predicate ts) (λ a. each g (of_predicate a)) (predicate_m i)
    unfolding predicate predicate_m
    predicate_agrees p l a q e =
        by_got f p l u8 (λ k. if eqb k 1 then note_m i else skip_m (predicate_size k - 1)) k.is_kind
        ∙ cases k.kind rest k.holds
      where
        pairs : List (Reader Predicate)
        pairs =
            (place ts >>=ᵣ λ x. place ts >>=ᵣ λ v. give (state x v))
            ∷ (place ts >>=ᵣ λ r. give (Predicate.unknown r))
            ∷ (u8 >>=ᵣ λ d. u32 >>=ᵣ λ b. u32 >>=ᵣ λ e. give (window d b e))
            ∷ []

        k : Kind pairs f p a q
        k = kind_found pairs e

        o : ℕ
        o = k.next

        rest : Wide (predicate_size k.kind - 1) f o q
        rest =
            let w = predicate_wide ts e in
            let u = u8_wide f p k.is_kind in
            let z = ap predicate_size (u8_value f p k.is_kind) in
            let m = size_some _ k.kind refl in
            record { ends = omega (arith, w.ends, u.ends, z, m); inside = omega (arith, w.inside, u.ends, z, m) }

        cases : (n : ℕ) → Wide (predicate_size n - 1) f o q → get_or pairs n refuse f o ≡ got a q →
            (if eqb n 1 then note_m i else skip_m (predicate_size n - 1)) f o l ≡ after q (add_all (each g (of_predicate a)) l)
        cases zero w h =
            let x = bound (place ts) _ h in
            let v = bound (place ts) _ x.rest in
            let z = given _ _ _ v.rest in
            skips f o l _ w
            ∙ after_same q (state_adds x.value v.value l)
            ∙ ap (λ (y : Predicate). after q (add_all (each g (of_predicate y)) l)) z.0
        cases (suc zero) w h =
            let x = bound (place ts) _ h in
            let z = given _ _ _ x.rest in
            note_agrees o l x.value q (x.first ∙ ap (got x.value) z.1)
            ∙ after_same q (unknown_adds x.value l)
            ∙ ap (λ (y : Predicate). after q (add_all (each g (of_predicate y)) l)) z.0
        cases (suc (suc zero)) w h =
            let x = bound u8 _ h in
            let y = bound u32 _ x.rest in
            let v = bound u32 _ y.rest in
            let z = given _ _ _ v.rest in
            skips f o l _ w
            ∙ after_same q (window_adds x.value y.value v.value l)
            ∙ ap (λ (y : Predicate). after q (add_all (each g (of_predicate y)) l)) z.0
        cases (suc (suc (suc n))) w h = absurd (found.refused f o h)

  -- ---- lists
  module _ {A : Type 0} (r : Reader A) (h : A → List Text) (k : Listing) (one : Adds f r h k) where
    times_agree : (c : ℕ) → Adds f (times c r) (flat h) (times_m c k)
    unfolding times times_m stay flat add_all
    times_agree zero p l xs q e =
        let z = given _ _ _ e in
        ap (λ (x : ℕ). after x l) z.1 ∙ ap (λ (y : List A). after q (add_all (flat h y) l)) z.0
    times_agree (suc c) p l xs q e =
        let x = bound r _ e in
        let y = bound (times c r) _ x.rest in
        let z = given _ _ _ y.rest in
        next f p l k (times_m c k) (one p l x.value x.next x.first)
        ∙ times_agree c x.next (add_all (h x.value) l) y.value q (y.first ∙ ap (got y.value) z.1)
        ∙ after_same q (add_both (h x.value) (flat h y.value) l)
        ∙ ap (λ (y : List A). after q (add_all (flat h y) l)) z.0

    counted_agrees : Adds f (counted r) (flat h) (by u16 (λ c. times_m c k))
    counted_agrees p l xs q e =
        let c = counted_found r e in
        by_got f p l u16 (λ c. times_m c k) c.is_count ∙ times_agree c.count c.start l xs q c.are_values

  -- lists of parts behind an identifier
  module _ (i : ℕ) (g : Text → Text) (is : Renders f ts i g) where
    pub notes_agree : Adds f (counted (place ts)) (each g) (parts_m part.Note i)
    unfolding parts_m part_m
    notes_agree p l xs q e =
        counted_agrees (place ts) (λ t. g t ∷ []) (note_m i) (note_agrees i g is) p l xs q e
        ∙ after_same q (ap (λ (y : List Text). add_all y l) (flat_one g xs))

    pub triggers_agree : Adds f (counted (trigger ts)) (λ xs. each g (flat of_trigger xs)) (parts_m part.Trigger i)
    unfolding parts_m part_m
    triggers_agree p l xs q e =
        counted_agrees (trigger ts) (λ t. each g (of_trigger t)) (trigger_m i) (trigger_agrees i g is) p l xs q e
        ∙ after_same q (ap (λ (y : List Text). add_all y l) (flat_each g of_trigger xs))

    pub predicates_agree : Adds f (counted (predicate ts)) (λ xs. each g (flat of_predicate xs)) (parts_m part.Predicate i)
    unfolding parts_m part_m
    predicates_agree p l xs q e =
        counted_agrees (predicate ts) (λ t. each g (of_predicate t)) (predicate_m i) (predicate_agrees i g is) p l xs q e
        ∙ after_same q (ap (λ (y : List Text). add_all y l) (flat_each g of_predicate xs))
