-- The judging of one invariant, on places: the invariant at a position of the file f, with the table x, over records and
-- the values by entity number. It goes as checker's Judge does for texts.
use Rattle.std.specs.Prelude.{ℕ, ◌+◌, ◌≡◌, Bool, true, false, Option, Some, None, ◌&&◌, ◌||◌, List, [], ◌∷◌, ltb, eqb, length, get_or, set, if◌then◌else◌}
use Rattle.records.specs.Records.{recorded}
use Rattle.records.specs.declared.Write.{Write}
use Rattle.records.specs.declared.Record.{Record}
use Rattle.engine_fields.specs.Fields.{two, four, cap, entity_of}
use Rattle.engine_state.specs.Machine.{later, stored_m}
use Rattle.engine_state.specs.declared.Cells.{Cells}
use Rattle.engine_evaluate.specs.Evaluate.{evaluate_m, size_m, all_m}
use Rattle.engine_evaluate.specs.declared.Truth.{Truth}
use Rattle.checker_response.specs.declared.Failure.TheVariants.{
  ProhibitedState,
  GuardViolated,
  ForbiddenTransition,
}
use Rattle.checker_response.specs.declared.Memory.{Memory}
use Rattle.checker_response.specs.declared.Shown.{Shown}
use Rattle.checker_response.specs.declared.Seen.{Seen}
use Rattle.checker_response.specs.Response.{yes_m, no_m, unknown_m, fails_m, failed_m, responded_m}
use Rattle.checker_judge.specs.declared.Reading.{Reading}

abbrev pub nothing_m : Memory
nothing_m = record { wait = None; held = false; unknown = false; unclear = false; beyond = false }

-- a predicate is unknown at this record
unfoldable pub unsure_m : Bool → Memory → Memory
unsure_m b m = record { wait = m.wait; held = m.held; unknown = m.unknown || b; unclear = m.unclear; beyond = m.beyond }

-- ---- the values after a change; a name that no entity has changes nothing

unfoldable pub put_m : (x : List ℕ) → Cells → (id value : ℕ) → Cells
put_m x c id v = if ltb (entity_of x id) 32 then stored_m c (entity_of x id) v else c

unfoldable pub after_m : (x : List ℕ) → Option Write → Cells → Cells
after_m x None c = c
after_m x (Some w) c = put_m x c w.entity w.after

-- the same for the values alone: the entity that a change writes, or 32, and the value
unfoldable pub entity_m : (x : List ℕ) → Option Write → ℕ
entity_m x None = 32
entity_m x (Some w) = entity_of x w.entity

unfoldable pub value_m : Option Write → ℕ
value_m None = 0
value_m (Some w) = w.after

unfoldable pub set_m : List ℕ → (e value : ℕ) → List ℕ
set_m vs e v = if ltb e 32 then set vs e v else vs

-- ---- never, guard, transition

unfoldable pub never_m : (f x : List ℕ) → (at : ℕ) → (present : List ℕ) → Memory → Shown
never_m f x at present m =
    let t = (all_m f x present 0 (later at 3)).truth in
    record { failure = fails_m (yes_m t) (Some ProhibitedState); memory = unsure_m (unknown_m t) m }

-- the change sets the guard's entity to its value
unfoldable pub writes_m : List ℕ → (at : ℕ) → Option Write → Bool
writes_m f at None = false
writes_m f at (Some w) = eqb w.entity (two f (at + 3)) && eqb w.after (two f (at + 5))

unfoldable pub about_m : List ℕ → (at : ℕ) → Record → Bool
about_m f at r = eqb r.kind 2 && writes_m f at r.change

-- what a record that the guard is about shows, by the truth of what the guard requires
unfoldable pub guarded_m : Truth → Memory → Shown
guarded_m t m = record { failure = fails_m (no_m t) (Some GuardViolated); memory = unsure_m (unknown_m t) m }

unfoldable pub guard_m : (f x : List ℕ) → (at : ℕ) → (before : List ℕ) → Record → Memory → Shown
guard_m f x at before r m =
    if about_m f at r then guarded_m (all_m f x before 0 (later at 7)).truth m else record { failure = None; memory = m }

-- the change takes the transition's entity from its first value to its second
unfoldable pub passes_m : List ℕ → (at : ℕ) → Option Write → Bool
passes_m f at None = false
passes_m f at (Some w) = eqb w.entity (two f (at + 3)) && eqb w.before (two f (at + 5)) && eqb w.after (two f (at + 7))

unfoldable pub transition_m : List ℕ → (at : ℕ) → Record → Memory → Shown
transition_m f at r m = record { failure = fails_m (passes_m f at r.change) (Some ForbiddenTransition); memory = m }

-- ---- what a response reads

-- where the goal stands, and the seconds
unfoldable pub goal_at : List ℕ → (at : ℕ) → ℕ
goal_at f at = later (later at 3) (size_m f (later at 3))

unfoldable pub within_at : List ℕ → (at : ℕ) → ℕ
within_at f at = later (goal_at f at) (size_m f (goal_at f at))

unfoldable pub seen_m : (f x : List ℕ) → (at : ℕ) → (before present : List ℕ) → Seen
seen_m f x at before present = record {
  cause = evaluate_m f x present 0 (later at 3);
  goal = evaluate_m f x present 0 (goal_at f at);
  earlier = evaluate_m f x before 0 (goal_at f at);
  within = four f (within_at f at);
}

-- ---- any invariant

-- what a record shows; `before` and `present` are the values before it and after it
unfoldable pub read_m : (f x : List ℕ) → (at : ℕ) → (before present : List ℕ) → Record → Memory → Shown
read_m f x at before present r m =
    if eqb (get_or f at 0) 0 then never_m f x at present m
    else if eqb (get_or f at 0) 1 then guard_m f x at before r m
    else if eqb (get_or f at 0) 2 then transition_m f at r m
    else responded_m (seen_m f x at before present) r.second (eqb r.kind 9) m

-- ---- all records

-- the cells after a record, and the reading up to it
pub record Turn : Type 0 where
  pub cells : Cells
  pub reading : Reading

abbrev pub turned_m : (k : ℕ) → Record → Cells → Shown → Turn
turned_m k r present s = record {
  cells = present;
  reading = record { failure = s.failure; index = k; second = r.second; source = r.source; memory = s.memory };
}

-- the record with the index k, with the values before it
unfoldable pub turn_m : (f x : List ℕ) → (at : ℕ) → Cells → Memory → (k : ℕ) → Record → Turn
turn_m f x at c m k r =
    let present = after_m x r.change c in
    turned_m k r present (read_m f x at c.values present.values r m)

abbrev pub unfailed_m : Memory → Reading
unfailed_m m = record { failure = None; index = 0; second = 0; source = None; memory = m }

-- the records from index k on: the first that fails, or none
unfoldable pub reading_m : (f x : List ℕ) → (at : ℕ) → Cells → Memory → (k : ℕ) → List Record → Reading
reading_m f x at c m k [] = unfailed_m m
reading_m f x at c m k (r ∷ l) =
    let t = turn_m f x at c m k r in
    elim (failed_m t.reading.failure) [
      | true ↦ t.reading
      | false ↦ reading_m f x at t.cells t.reading.memory (k + 1) l
    ]

-- from the values that the simulation started from
unfoldable pub judge_m : (f x : List ℕ) → (at : ℕ) → Cells → List Record → Reading
judge_m f x at c l = reading_m f x (cap at) c nothing_m 0 l

-- ---- over the record area a, whatever records it holds

pub record Judges (f x : List ℕ) (at : ℕ) (c : Cells) (a : List ℕ) (n : ℕ) (r : Reading) : Type 0 where
  pub is : (l : List Record) → length l ≡ n → a ≡ recorded (length a) l → r ≡ judge_m f x at c l
