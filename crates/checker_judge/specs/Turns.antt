-- One record's turn in the code: it keeps the values of the named entities only, and shows what the definition's turn shows.
use Rattle.std.specs.Prelude.{ℕ, ◌<◌, ◌≡◌, Bool, true, false, None, List, length, get_or}
use Rattle.records.specs.Records.{recorded}
use Rattle.records.specs.declared.Record.{Record}
use Rattle.engine_fields.specs.Fields.{entity_of}
use Rattle.engine_state.specs.declared.Cells.{Cells}
use Rattle.std.specs.Prelude.{Option, Some}
use Rattle.checker_response.specs.declared.Memory.{Memory}
use Rattle.checker_response.specs.declared.Shown.{Shown}
use Rattle.checker_response.specs.Response.{failed_m}
use Rattle.checker_judge.specs.declared.Reading.{Reading}
use Rattle.checker_judge.specs.Judging.{read_m, Turn, turn_m}
use Rattle.checker_judge.specs.Names.{has_m, named_in, pending_m}

-- the same values for each entity whose cell says yes
pub record Agree (x : List ℕ) (named : List Bool) (vs ws : List ℕ) : Type 0 where
  pub long : length vs ≡ length ws
  pub same : (id : ℕ) → has_m named id ≡ true → get_or vs (entity_of x id) 0 ≡ get_or ws (entity_of x id) 0

-- nothing failed, and nothing is learnt
abbrev pub nothing_new : Memory → Shown
nothing_new m = record { failure = None; memory = m }

-- with these values a record without a change shows nothing new, unless a deadline is awaited
pub record Fresh (f x : List ℕ) (at : ℕ) (vs : List ℕ) (m : Memory) : Type 0 where
  pub still : pending_m m.wait ≡ false → (r : Record) → r.change ≡ None → read_m f x at vs vs r m ≡ nothing_new m

-- the reading r is that of the definition's turn t, and the values after it agree with the turn's
pub record Follows (f x : List ℕ) (at : ℕ) (t : Turn) (r : Reading) (after : List ℕ) : Type 0 where
  pub reading : r ≡ t.reading
  pub agree : Agree x (named_in f at) t.cells.values after
  pub fresh : failed_m r.failure ≡ false → Fresh f x at after r.memory

-- the record at k, whatever records the area a holds, from any cells that agree with the values vs
pub record Turned (f x : List ℕ) (at : ℕ) (vs : List ℕ) (m : Memory) (a : List ℕ) (k : ℕ) (r : Reading) (after : List ℕ)
    : Type 0 where
  pub is : (c : Cells) (l : List Record) (d : Record) → Agree x (named_in f at) c.values vs
      → k < length l → a ≡ recorded (length a) l → Follows f x at (turn_m f x at c m k (get_or l k d)) r after
