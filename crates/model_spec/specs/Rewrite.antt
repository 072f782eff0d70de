-- The model file with other events: a witness or a reduced model.
use Rattle.std.specs.Prelude.{ℕ, ◌+◌, ◌/◌, ◌%◌, List, [], ◌∷◌, ◌++◌, length, take, drop, if◌then◌else◌}
use Rattle.texts.specs.Lists.{flat, all_lists}
use Rattle.texts.specs.Texts.{Text, eq_t, all_texts}
use Rattle.model_spec.specs.Model.{Input, reload, Event}
use Rattle.model_spec.specs.File.{got, broken, head, events, all_readers}

-- numbers, little-endian. No part of a number is left out: `u16` and `u32` read it back whatever it is, and these are bytes
-- exactly if it is below 65,536, or 4,294,967,296.

unfoldable pub bytes2 : ℕ → List ℕ
bytes2 n = n % 256 ∷ n / 256 ∷ []

unfoldable pub bytes4 : ℕ → List ℕ
bytes4 n = bytes2 (n % 65536) ++ bytes2 (n / 65536)

-- a text's place among the texts
unfoldable pub place_of : Text → List Text → ℕ
place_of t [] = 0
place_of t (x ∷ l) = if eq_t t x then 0 else 1 + place_of t l

module _ (ts : List Text) where
  unfoldable pub input_bytes : Input → List ℕ
  input_bytes (Input.set x v) = 0 ∷ bytes2 (place_of x ts) ++ bytes2 (place_of v ts)
  input_bytes Input.restart = 1 ∷ []
  input_bytes reload = 2 ∷ []

  unfoldable pub event_bytes : Event → List ℕ
  event_bytes e = bytes4 e.at ++ input_bytes e.input

  unfoldable pub events_bytes : List Event → List ℕ
  events_bytes l = bytes2 (length l) ++ flat event_bytes l

-- the sections before the events, the new events section, the later sections. A file that reads has them all.
unfoldable pub rewritten : (file : List ℕ) → List Event → List ℕ
rewritten file l = elim (head file 0) [
  | broken ↦ []
  | got h start ↦ elim (events h file start) [
    | broken ↦ []
    | got old end ↦ take start file ++ events_bytes h.texts l ++ drop end file
  ]
]

-- opens the file, for proofs by computation
unfoldable pub all_rewrite : Unit {0}
unfolding all_lists all_texts all_readers bytes2 bytes4 place_of input_bytes event_bytes events_bytes rewritten
all_rewrite = tt
