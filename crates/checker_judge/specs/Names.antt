-- The entities that an invariant names, as 64 cells: an entity's cell is the one at its place's remainder. So a cell may say
-- yes for an entity that isn't named, but never no for one that is.
use Rattle.std.specs.Prelude.{ℕ, zero, suc, ◌+◌, ◌%◌, ◌≤◌, ◌<◌, ◌≡◌, Bool, true, false, Option, Some, None, List, eqb, length, get_or, set, replicate, if◌then◌else◌}
use Rattle.records.specs.Records.{recorded}
use Rattle.records.specs.declared.Write.{Write}
use Rattle.records.specs.declared.Record.{Record}
use Rattle.engine_fields.specs.Fields.{two}
use Rattle.engine_state.specs.Machine.{later}
use Rattle.engine_evaluate.specs.Evaluate.{size_m}
use Rattle.checker_judge.specs.Judging.{goal_at}

unfoldable pub has_m : List Bool → (id : ℕ) → Bool
has_m l id = get_or l (id % 64) false

unfoldable pub with_m : (id : ℕ) → List Bool → List Bool
with_m id l = set l (id % 64) true

-- the entity of the predicate at a position, unless it is a note
unfoldable pub predicate_m : List ℕ → (at : ℕ) → List Bool → List Bool
predicate_m f at l = if eqb (get_or f at 0) 1 then l else with_m (two f (at + 1)) l

-- `left` predicates from p on
unfoldable pub each_m : List ℕ → (left p : ℕ) → List Bool → List Bool
each_m f zero p l = l
each_m f (suc left) p l = each_m f left (later p (size_m f p)) (predicate_m f p l)

-- the list at a position
unfoldable pub list_m : List ℕ → (at : ℕ) → List Bool → List Bool
list_m f at l = each_m f (two f at) (later at 2) l

-- the invariant at a position
unfoldable pub names_m : List ℕ → (at : ℕ) → List Bool → List Bool
names_m f at l =
    if eqb (get_or f at 0) 0 then list_m f (later at 3) l
    else if eqb (get_or f at 0) 1 then list_m f (later at 7) (with_m (two f (at + 3)) l)
    else if eqb (get_or f at 0) 2 then with_m (two f (at + 3)) l
    else predicate_m f (goal_at f at) (predicate_m f (later at 3) l)

abbrev pub named_in : List ℕ → (at : ℕ) → List Bool
named_in f at = names_m f at (replicate 64 false)

-- the change writes an entity whose cell says yes
unfoldable pub touches_m : List Bool → Option Write → Bool
touches_m l None = false
touches_m l (Some w) = has_m l w.entity

unfoldable pub pending_m : Option ℕ → Bool
pending_m None = false
pending_m (Some d) = true

-- the record at k, whatever records the area a holds, writes no entity whose cell says yes
pub record Untouched (named : List Bool) (a : List ℕ) (k : ℕ) : Type 0 where
  pub is : (l : List Record) (d : Record) → k < length l → a ≡ recorded (length a) l
      → touches_m named (get_or l k d).change ≡ false

-- yes is said only of one of the n records, and only if it writes no such entity
pub record Quiet (named : List Bool) (a : List ℕ) (n k : ℕ) (yes : Bool) : Type 0 where
  pub among : yes ≡ true → k < n
  pub untouched : yes ≡ true → Untouched named a k

-- so is each of the records from k up to r
pub record AllQuiet (named : List Bool) (a : List ℕ) (n k r : ℕ) : Type 0 where
  pub onward : k ≤ r
  pub among : k < r → r ≤ n
  pub untouched : (j : ℕ) → k ≤ j → j < r → Untouched named a j

-- the records from k up to r can show nothing new: they are quiet, none is the first, and no deadline is awaited
pub record Skips (named : List Bool) (wait : Option ℕ) (a : List ℕ) (n k r : ℕ) : Type 0 where
  pub quiet : AllQuiet named a n k r
  pub later_ones : k < r → 0 < k
  pub idle : k < r → pending_m wait ≡ false
