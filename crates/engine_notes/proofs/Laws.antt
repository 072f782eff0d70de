-- The laws that the proofs of listings cite.
use Rattle.std.specs.Prelude.{Some, None, if◌then◌else◌}
use mathlib.Core.Path.{◌≡◌, refl, sym, ap, ◌∙◌}
use mathlib.Core.List.{List}
use mathlib.Core.Bool.{Bool, true, false}
use Prim.Native.Nat.{ℕ, zero, suc, ◌+◌, ◌-◌, ◌*◌, ◌≤◌, ◌<◌}
use native.Mathlib.Numerals.{sub-one}
use native.Mathlib.Omega.{arith}
use lib.ListN.{length}
use lib.Dec.{eqb}
use borrow.Author.Tests.{lt-ltb, le-ltb, le-leb, lt-leb, eq-eqb, ne_eqb}
use Rattle.layout.specs.Sizes.{last_simulation_reason, simulation_reason_words}
use Rattle.texts.specs.Texts.{Text, insert_t}
use Rattle.model_spec.specs.File.{Reader, u8, u16}
use Rattle.model_walk.specs.Walk.{Num, found, predicate_size}
use Rattle.model_walk.proofs.Laws.{is_got, is_broken}
use Rattle.reasons.specs.Kinds as kinds
use Rattle.reasons.specs.declared.Reason.{Reason}
use Rattle.reasons.specs.Reasons.{render}
use Rattle.reasons.specs.Readable.{Readable, HasText}
use Rattle.reasons.specs.Lists.{listed, Grows}
use Rattle.reasons.proofs.Listing.{one_more, length_listed}
use Rattle.engine_fields.specs.Fields.{text_position, note_reason}
use Rattle.engine_fields.proofs.Readable.{position_stands}
use Rattle.engine_fields.proofs.Readable as reads
use Rattle.engine_notes.specs.declared.Noted.{Noted}
use Rattle.engine_notes.specs.declared.Part.{Part}
use Rattle.engine_notes.specs.declared.Part.TheVariants as part
use Rattle.engine_notes.specs.Listing.{
  After,
  after,
  told,
  Listing,
  ◌⨾◌,
  read,
  by,
  stay,
  skipped,
  skip_m,
  times_m,
  id_note,
  note_of,
  insert_m,
  Makes,
  add_note_m,
  add_m,
  note_m,
  trigger_m,
  predicate_m,
  part_m,
  parts_m,
}

-- ---- one listing after the other

-- the code's answer x of a number, and its case
module _ {A : Type 0} (f : List ℕ) (p : ℕ) (r : Reader ℕ) (z : A) (k : ℕ → ℕ → A) {x : Num} (e : found x ≡ r f p) where
  pub read_is : {v q : ℕ} → x ≡ Some (v, q) → read r z k f p ≡ k v q
  unfolding read
  read_is h = rw (is_got e h, read)

  pub read_broken : x ≡ None → read r z k f p ≡ z
  unfolding read
  read_broken h = rw (is_broken e h, read)

module _ (f : List ℕ) (p : ℕ) (l : List Text) where
  module _ (r : Reader ℕ) (k : ℕ → Listing) {x : Num} (e : found x ≡ r f p) where
    pub by_is : {v q : ℕ} → x ≡ Some (v, q) → by r k f p l ≡ k v f q l
    unfolding by
    by_is h = read_is f p r (after p l) (λ x q. k x f q l) e h

    pub by_broken : x ≡ None → by r k f p l ≡ after p l
    unfolding by
    by_broken h = read_broken f p r (after p l) (λ x q. k x f q l) e h

  -- the code's answer d of the first listing, and the area's words b
  pub to : (k m : Listing) (d : Noted) (b : List ℕ) → told f d b ≡ k f p l →
      (k ⨾ m) f p l ≡ m f d.next (listed f d.count b)
  unfolding ◌⨾◌
  to k m d b e = ap (λ (y : After). m f y.next y.list) (sym e)

  pub yes_list : {b : Bool} (k m : Listing) → b ≡ true → (if b then k else m) f p l ≡ k f p l
  yes_list k m h = rw h

  pub no_list : {b : Bool} (k m : Listing) → b ≡ false → (if b then k else m) f p l ≡ m f p l
  no_list k m h = rw h

module _ (k : Listing) (f : List ℕ) (p : ℕ) (l : List Text) where
  pub times_more : (i : ℕ) → 0 < i → times_m i k f p l ≡ (k ⨾ times_m (i - 1) k) f p l
  unfolding times_m
  times_more zero h = absurd (omega arith)
  times_more (suc i) h = rw (sub-one (suc i))

  pub times_none : (i : ℕ) → i ≤ 0 → times_m i k f p l ≡ after p l
  unfolding times_m stay
  times_none zero h = refl
  times_none (suc i) h = absurd (omega arith)

-- ---- reasons

pub id_is : (f : List ℕ) (i m a b : ℕ) → a ≡ text_position f i → b ≡ text_position f m →
    record { kind = kinds.id_note_kind; first = a; second = b; line = 0; column = 0 } ≡ id_note f i m
unfolding id_note
id_is f i m a b e g = rw (e, g)

module _ (f : List ℕ) (i m : ℕ) {r : Reason} where
  pub note_plain : i ≡ 65535 → r ≡ note_reason f m → r ≡ note_of f i m
  unfolding note_of
  note_plain h e = rw (eq-eqb i 65535 h) e

  pub note_id : (i ≡ 65535 → ⊥) → r ≡ id_note f i m → r ≡ note_of f i m
  unfolding note_of
  note_id h e = rw (ne_eqb i 65535 h) e

-- a note can be read
pub note_readable : {f : List ℕ} {r : Reason} (i m : ℕ) → r ≡ note_of f i m → HasText f → Readable f r
unfolding note_of
note_readable {f} {r} i m e h = by (eqb i 65535) e
  where
    id_readable : Readable f (id_note f i m)
    id_readable = unfold id_note in record {
      known = omega arith;
      first = position_stands f h i;
      second =
          position_stands f h m;
      line = refl;
      column = refl;
    }

    by : (b : Bool) → r ≡ (if b then note_reason f m else id_note f i m) → Readable f r
    by true g = reads.note_readable m g h
    by false g = rw g id_readable

pub put_fits : (f a : List ℕ) (n : ℕ) (r : Reason) → n ≤ last_simulation_reason → simulation_reason_words ≤ length a →
    length (insert_t (render f r) (listed f n a)) * 5 ≤ length a
put_fits f a n r h l = omega (arith, one_more (render f r) (listed f n a), length_listed f n a)

module _ (f a : List ℕ) (n : ℕ) (r : Reason) where
  full_is : last_simulation_reason < n → listed f n a ≡ insert_m (render f r) (listed f n a)
  unfolding insert_m
  full_is h = rw (lt-ltb last_simulation_reason (length (listed f n a)) (omega (arith, length_listed f n a)))

  in_is : n ≤ last_simulation_reason → insert_t (render f r) (listed f n a) ≡ insert_m (render f r) (listed f n a)
  unfolding insert_m
  in_is h = rw (le-ltb last_simulation_reason (length (listed f n a)) (omega (arith, length_listed f n a)))

  pub put_full : last_simulation_reason < n → Makes (insert_m (render f r)) f n a n a
  put_full h = record { is = full_is h; clean = λ t k. k }

  pub put_in : {k : ℕ} {b : List ℕ} → n ≤ last_simulation_reason →
      Grows f (Readable f r) (insert_t (render f r) (listed f n a)) n a k b →
      (HasText f → Readable f r) → Makes (insert_m (render f r)) f n a k b
  put_in h e y = record { is = e.texts ∙ in_is h; clean = λ t k. e.clean (y t) k }

module _ (f : List ℕ) (i m : ℕ) (l : List Text) where
  pub add_none : m ≡ 65535 → l ≡ add_note_m f i m l
  unfolding add_note_m
  add_none h = rw (eq-eqb m 65535 h)

  pub add_some : {r : Reason} {t : List Text} → (m ≡ 65535 → ⊥) → r ≡ note_of f i m → t ≡ insert_m (render f r) l →
      t ≡ add_note_m f i m l
  unfolding add_note_m
  add_some h e g = rw (ne_eqb m 65535 h) (g ∙ ap (λ (y : Reason). insert_m (render f y) l) e)

-- ---- parts that hold no list

pub skip_in : (w : ℕ) (f : List ℕ) (p : ℕ) → p + w ≤ length f → p + w ≡ skipped w f p
unfolding skipped
skip_in w f p h = rw (le-leb (p + w) (length f) h)

pub skip_out : (w : ℕ) (f : List ℕ) (p : ℕ) → length f < p + w → p ≡ skipped w f p
unfolding skipped
skip_out w f p h = rw (lt-leb (p + w) (length f) h)

pub skip_is : (w : ℕ) (f : List ℕ) (p : ℕ) (l : List Text) {q : ℕ} → q ≡ skipped w f p → after q l ≡ skip_m w f p l
unfolding skip_m
skip_is w f p l e = rw e

pub skip_then : (w : ℕ) (m : Listing) (f : List ℕ) (p : ℕ) (l : List Text) {q : ℕ} → q ≡ skipped w f p →
    m f q l ≡ (skip_m w ⨾ m) f p l
unfolding skip_m ◌⨾◌
skip_then w m f p l e = rw e

module _ (f : List ℕ) (p : ℕ) (l : List Text) where
  pub add_put : (i m : ℕ) {t : List Text} → t ≡ add_note_m f i m l → add_m i m f p l ≡ after p t
  unfolding add_m
  add_put i m e = ap (after p) (sym e)

  pub note_is : (i : ℕ) → note_m i f p l ≡ by u16 (add_m i) f p l
  unfolding note_m
  note_is i = refl

  pub trigger_is : (i : ℕ) → trigger_m i f p l ≡ (skip_m 14 ⨾ note_m i) f p l
  unfolding trigger_m
  trigger_is i = refl

  -- a predicate of the kind k has w bytes, the kind itself counted
  pub skip_size : (k : ℕ) {q w : ℕ} → q ≡ skipped (w - 1) f p → w ≡ predicate_size k →
      after q l ≡ skip_m (predicate_size k - 1) f p l
  skip_size k e h = skip_is _ f p l e ∙ ap (λ (x : ℕ). skip_m (x - 1) f p l) h

  pub predicate_is : (i : ℕ) →
      predicate_m i f p l ≡ by u8 (λ k. if eqb k 1 then note_m i else skip_m (predicate_size k - 1)) f p l
  unfolding predicate_m
  predicate_is i = refl

  module _ (i : ℕ) {k : Part} where
    pub part_note : k ≡ part.Note → part_m k i f p l ≡ note_m i f p l
    unfolding part_m
    part_note h = rw h

    pub part_trigger : k ≡ part.Trigger → part_m k i f p l ≡ trigger_m i f p l
    unfolding part_m
    part_trigger h = rw h

    pub part_predicate : k ≡ part.Predicate → part_m k i f p l ≡ predicate_m i f p l
    unfolding part_m
    part_predicate h = rw h

  pub parts_is : (k : Part) (i : ℕ) → parts_m k i f p l ≡ by u16 (λ c. times_m c (part_m k i)) f p l
  unfolding parts_m
  parts_is k i = refl
