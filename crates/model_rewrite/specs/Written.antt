-- The bytes of an events section whose events are words: four for each, a second, a kind (0 sets, 1 restarts, 2 reloads),
-- the place of an entity and the place of a value.
use Rattle.std.specs.Prelude.{◌≡◌, ℕ, zero, suc, ◌+◌, ◌*◌, ◌≤◌, ◌<◌, List, [], ◌∷◌, ◌++◌, eqb, length, get_or, take, drop, if◌then◌else◌}
use Rattle.model_spec.specs.Rewrite.{bytes2, bytes4}
use Rattle.model_rewrite.specs.declared.Span.{Span}

-- the second and the kind
unfoldable pub event_start : (second kind : ℕ) → List ℕ
event_start s k = bytes4 s ++ (k ∷ [])

unfoldable pub two_places : (entity value : ℕ) → List ℕ
two_places e v = bytes2 e ++ bytes2 v

-- only an event that sets has places
unfoldable pub event_of : (second kind entity value : ℕ) → List ℕ
event_of s k e v = event_start s k ++ (if eqb k 0 then two_places e v else [])

-- the k-th event
unfoldable pub event_at : List ℕ → ℕ → List ℕ
event_at l k = event_of (get_or l (k * 4) 0) (get_or l (k * 4 + 1) 0) (get_or l (k * 4 + 2) 0) (get_or l (k * 4 + 3) 0)

-- the first n events
unfoldable pub first_events : List ℕ → ℕ → List ℕ
first_events l zero = []
first_events l (suc n) = first_events l n ++ event_at l n

unfoldable pub section_bytes : List ℕ → ℕ → List ℕ
section_bytes l n = bytes2 n ++ first_events l n

-- the file with these events in place of those that stand there
unfoldable pub file_with : (file : List ℕ) → Span → (events : List ℕ) → ℕ → List ℕ
file_with f x l n = take x.start f ++ section_bytes l n ++ drop x.end f

-- ---- what the writers ask for

-- the k-th event's numbers fit their bytes: the kind one byte, each place of an event that sets two
pub record EventFits (l : List ℕ) (k : ℕ) : Type 0 where
  pub kind : get_or l (k * 4 + 1) 0 < 256
  pub entity : get_or l (k * 4 + 1) 0 ≡ 0 → get_or l (k * 4 + 2) 0 < 65536
  pub value : get_or l (k * 4 + 1) 0 ≡ 0 → get_or l (k * 4 + 3) 0 < 65536

-- the first n events stand in the words, and their count and all their numbers fit
pub record EventsFit (l : List ℕ) (n : ℕ) : Type 0 where
  pub words : n * 4 ≤ length l
  pub count : n < 65536
  pub each : (k : ℕ) → k < n → EventFits l k

-- the events' section is a part of the file, and the new file has room
pub record Room (f : List ℕ) (x : Span) (l : List ℕ) (n : ℕ) (out : List ℕ) : Type 0 where
  pub ordered : x.start ≤ x.end
  pub inside : x.end ≤ length f
  pub events : EventsFit l n
  pub room : length (file_with f x l n) ≤ length out

-- ---- what they do

-- these bytes were written to the front of the output: as many as the answer says, and the rest is as it came
pub record Wrote (b : List ℕ) (size : ℕ) (entry exit : List ℕ) : Type 0 where
  pub is_size : size ≡ length b
  pub is_out : exit ≡ b ++ drop (length b) entry
