-- The notes of parts as reasons, listed from the file. A listing goes over a part of the file, from a position on,
-- with the reasons so far; it ends at a position, with the reasons after it. A part that is not there is passed over.
-- `proofs/Refines` has, for each listing, that it adds the reasons of the part that the reader of `File` finds there.
use Rattle.std.specs.Prelude.{ℕ, zero, suc, ◌+◌, ◌-◌, ◌≡◌, List, ltb, leb, eqb, length, if◌then◌else◌}
use Rattle.layout.specs.Sizes.{last_simulation_reason}
use Rattle.texts.specs.Texts.{Text, insert_t}
use Rattle.model_spec.specs.File.{got, broken, Reader, u8, u16}
use Rattle.model_walk.specs.Walk.{predicate_size}
use Rattle.reasons.specs.Kinds as kinds
use Rattle.reasons.specs.declared.Reason.{Reason}
use Rattle.reasons.specs.Reasons.{render}
use Rattle.reasons.specs.Readable.{HasText}
use Rattle.reasons.specs.Lists.{listed, Clean}
use Rattle.engine_fields.specs.Fields.{text_position, note_reason}
use Rattle.engine_notes.specs.declared.Noted.{Noted}
use Rattle.engine_notes.specs.declared.Part.{Part}
use Rattle.engine_notes.specs.declared.Part.TheVariants as part

-- the position after a part, and the reasons after it
pub record After : Type 0 where
  pub next : ℕ
  pub list : List Text

abbrev pub after : ℕ → List Text → After
after p l = record { next = p; list = l }

abbrev pub Listing : Type 0
Listing = List ℕ → ℕ → List Text → After

-- what the code's answer says, with the area's words
abbrev pub told : List ℕ → Noted → List ℕ → After
told f r a = after r.next (listed f r.count a)

-- the code's answer r and the area b after it are those of a listing over the first n reasons of the area a; clean stays
-- clean
pub record Lists (k : Listing) (f : List ℕ) (at n : ℕ) (a : List ℕ) (r : Noted) (b : List ℕ) : Type 0 where
  pub is : told f r b ≡ k f at (listed f n a)
  pub clean : HasText f → Clean f n a → Clean f r.count b

-- the first k reasons of the area b are what the first n of the area a become; clean stays clean
pub record Makes (g : List Text → List Text) (f : List ℕ) (n : ℕ) (a : List ℕ) (k : ℕ) (b : List ℕ) : Type 0 where
  pub is : listed f k b ≡ g (listed f n a)
  pub clean : HasText f → Clean f n a → Clean f k b

infixr 25 ◌⨾◌
-- one listing, and then the other
unfoldable pub ◌⨾◌ : Listing → Listing → Listing
◌⨾◌ k m f p l = m f (k f p l).next (k f p l).list

-- a number, and then what depends on it and on the position after it; z, if it isn't there
unfoldable pub read : {A : Type 0} → Reader ℕ → A → (ℕ → ℕ → A) → List ℕ → ℕ → A
read r z k f p = elim (r f p) [ got x q ↦ k x q | broken ↦ z ]

unfoldable pub by : Reader ℕ → (ℕ → Listing) → Listing
by r k f p l = read r (after p l) (λ x q. k x f q l) f p

unfoldable pub stay : Listing
stay f p l = after p l

unfoldable pub skipped : ℕ → List ℕ → ℕ → ℕ
skipped w f p = if leb (p + w) (length f) then p + w else p

-- w bytes that aren't looked at
unfoldable pub skip_m : ℕ → Listing
skip_m w f p l = after (skipped w f p) l

unfoldable pub times_m : ℕ → Listing → Listing
times_m zero k = stay
times_m (suc i) k = k ⨾ times_m i k

-- ---- reasons

unfoldable pub id_note : List ℕ → (id note : ℕ) → Reason
id_note f i m = record { kind = kinds.id_note_kind; first = text_position f i; second = text_position f m; line = 0; column = 0 }

-- a note behind an automation's identifier; 65,535 stands for none
unfoldable pub note_of : List ℕ → (id note : ℕ) → Reason
note_of f i m = if eqb i 65535 then note_reason f m else id_note f i m

-- a text among the others, which ascend, while there are fewer than 300
unfoldable pub insert_m : Text → List Text → List Text
insert_m t l = if ltb last_simulation_reason (length l) then l else insert_t t l

-- a note, or 65,535 for none
unfoldable pub add_note_m : List ℕ → (id note : ℕ) → List Text → List Text
add_note_m f i m l = if eqb m 65535 then l else insert_m (render f (note_of f i m)) l

-- ---- parts that hold no list

unfoldable pub add_m : (id note : ℕ) → Listing
add_m i m f p l = after p (add_note_m f i m l)

unfoldable pub note_m : (id : ℕ) → Listing
note_m i = by u16 (add_m i)

unfoldable pub trigger_m : (id : ℕ) → Listing
trigger_m i = skip_m 14 ⨾ note_m i

unfoldable pub predicate_m : (id : ℕ) → Listing
predicate_m i = by u8 (λ k. if eqb k 1 then note_m i else skip_m (predicate_size k - 1))

unfoldable pub part_m : Part → (id : ℕ) → Listing
part_m part.Note i = note_m i
part_m part.Trigger i = trigger_m i
part_m part.Predicate i = predicate_m i

-- a count, and as many parts
unfoldable pub parts_m : Part → (id : ℕ) → Listing
parts_m k i = by u16 (λ c. times_m c (part_m k i))
