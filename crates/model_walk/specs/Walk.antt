-- Walks: a reader that keeps no value. A walk goes over a part of the file, from a position on; it ends at a position, with
-- the notes so far (65 for more than 64), or finds the file rules broken. Places are only compared with the number of texts.
-- `proofs/Refines` has, for each walk, that it ends where the reader of `File` ends.
use Rattle.std.specs.Prelude.{Option, Some, None, ℕ, zero, suc, ◌+◌, Bool, List, ltb, leb, eqb, length, if◌then◌else◌}
use Rattle.model_spec.specs.File.{Got, got, broken, Reader, u8, u16}
use Rattle.model_walk.specs.declared.Piece.{Piece}
use Rattle.model_walk.specs.declared.Piece.TheVariants as piece

-- a number and the position after it, where the file has one there
abbrev pub Num : Type 0
Num = Option (ℕ × ℕ)

-- the position after a part, and the notes so far, where the part breaks no rule
abbrev pub Walked : Type 0
Walked = Option (ℕ × ℕ)

-- what a reader of numbers answers
unfoldable pub found : Num → Got ℕ
found (Some (x, next)) = got x next
found None = broken

-- a number of notes: 65 stands for any that is too large
unfoldable pub capped : ℕ → ℕ
capped n = if ltb 64 n then 65 else n

-- where the reader ended, and the notes after it: n before, and those of what it found
unfoldable pub seen : {A : Type 0} → (A → ℕ) → ℕ → Got A → Walked
seen w n (got a next) = Some (next, capped (n + w a))
seen w n broken = None

abbrev pub Walk : Type 0
Walk = List ℕ → ℕ → ℕ → Walked

unfoldable pub and_then : Walked → (ℕ → ℕ → Walked) → Walked
and_then (Some (p, n)) f = f p n
and_then None f = None

infixr 25 ◌⨾◌
-- one walk, and then the other
unfoldable pub ◌⨾◌ : Walk → Walk → Walk
◌⨾◌ k l s p n = and_then (k s p n) (l s)

-- a number, and then a walk that depends on it
unfoldable pub by : Reader ℕ → (ℕ → Walk) → Walk
by r f s p n = elim (r s p) [ got x next ↦ f x s next n | broken ↦ None ]

unfoldable pub stop : Walk
stop s p n = None

unfoldable pub stay : Walk
stay s p n = Some (p, n)

-- one more note
unfoldable pub noted : Walk
noted s p n = Some (p, capped (n + 1))

unfoldable pub staying : Bool → Walk
staying b = if b then stay else stop

-- w bytes
unfoldable pub bytes_m : ℕ → Walk
bytes_m w s p n = if leb (p + w) (length s) then Some (p + w, n) else None

-- a group of fields that the file may end before
unfoldable pub or_zeros_m : Walk → Walk
or_zeros_m k s p n = if ltb p (length s) then k s p n else Some (p, n)

-- how many bytes a predicate of this kind has, the kind itself counted
unfoldable pub predicate_size : (kind : ℕ) → ℕ
predicate_size k = if eqb k 0 then 5 else if eqb k 1 then 3 else 10

unfoldable pub times_m : ℕ → Walk → Walk
times_m zero k = stay
times_m (suc n) k = k ⨾ times_m n k

abbrev pub counted_m : Walk → Walk
counted_m k = by u16 (λ c. times_m c k)

-- a kind below a limit that holds nothing
abbrev pub kind_m : ℕ → Walk
kind_m limit = by u8 (λ k. staying (ltb k limit))

-- ---- parts that name texts, of which there are `ts`
module _ (ts : ℕ) where
  abbrev pub place_m : Walk
  place_m = by u16 (λ x. staying (ltb x ts))

  abbrev pub place?M : Walk
  place?M = by u16 (λ x. if eqb x 65535 then stay else staying (ltb x ts))

  -- a place that is a note, or none
  abbrev pub note?M : Walk
  note?M = by u16 (λ x. if eqb x 65535 then stay else if ltb x ts then noted else stop)

  -- a place that is a note
  abbrev pub note_m : Walk
  note_m = place_m ⨾ noted

  -- a window's days, start and end stand behind its kind
  unfoldable pub predicate_m : Walk
  predicate_m =
      by u8 (λ k. if eqb k 0 then place_m ⨾ place_m else if eqb k 1 then note_m else if eqb k 2 then bytes_m 9 else stop)

  unfoldable pub trigger_m : Walk
  trigger_m = place_m ⨾ place?M ⨾ place?M ⨾ bytes_m 8 ⨾ note?M

  unfoldable pub piece_m : Piece → Walk
  piece_m piece.Place = place_m
  piece_m piece.Note = note_m
  piece_m piece.Predicate = predicate_m
  piece_m piece.Trigger = trigger_m

  -- a count, and as many pieces
  abbrev pub pieces_m : Piece → Walk
  pieces_m k = counted_m (piece_m k)

  -- ---- actions

  -- what follows the kind k of an effect that holds no list
  unfoldable pub simple_m : ℕ → Walk
  simple_m k =
      if eqb k 0 then place_m ⨾ place_m
      else if eqb k 1 then place_m
      else if eqb k 2 then bytes_m 4
      else if eqb k 3 then predicate_m
      else if eqb k 5 then trigger_m ⨾ bytes_m 4 ⨾ kind_m 2
      else if eqb k 6 then note_m
      else stop

  -- a branch: its conditions, and its list
  abbrev pub branch_m : Walk → Walk
  branch_m inner = pieces_m piece.Predicate ⨾ inner

  abbrev pub choice_m : Walk → Walk
  choice_m inner = by u16 (λ c. times_m c (branch_m inner) ⨾ inner)

  abbrev pub action_m : Walk → Walk
  action_m inner = bytes_m 8 ⨾ by u8 (λ k. if eqb k 4 then choice_m inner else simple_m k)

  unfoldable pub actions_m : (left : ℕ) → Walk
  actions_m zero = stop
  actions_m (suc left) = counted_m (action_m (actions_m left))
