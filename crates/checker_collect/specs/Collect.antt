-- Violations as numbers, and what judging one invariant after the other gathers.
use Rattle.std.specs.Prelude.{ℕ, zero, suc, ◌+◌, ◌≤◌, ◌≡◌, Option, Some, None, List, [], ◌∷◌, ◌++◌, eqb, length, get_or, if◌then◌else◌}
use Rattle.texts.specs.Texts.{Text}
use Rattle.areas.specs.Areas.{area}
use Rattle.records.specs.Records.{recorded}
use Rattle.records.specs.declared.Record.{Record}
use Rattle.records.specs.declared.Source.{Source}
use Rattle.reasons.specs.Lists.{insert_all, Holds}
use Rattle.bounds.specs.Bounds.{at_most}
use Rattle.engine_fields.specs.Fields.{two, cap}
use Rattle.engine_state.specs.declared.Cells.{Cells}
use Rattle.checker_response.specs.declared.Failure.{Failure}
use Rattle.checker_response.specs.declared.Failure.TheVariants.{
  ProhibitedState,
  GuardViolated,
  ForbiddenTransition,
  DeadlineMissed,
}
use Rattle.checker_judge.specs.declared.Reading.{Reading}
use Rattle.checker_response.specs.Response.{failed_m}
use Rattle.checker_judge.specs.Judging.{judge_m}
use Rattle.checker_reasons.specs.Reasons.{renderings, unknown_m, incomplete_m}
use Rattle.checker_collect.specs.declared.Counts.{Counts}

-- ---- violations

abbrev pub failure_number : Option Failure → ℕ
failure_number None = 0
failure_number (Some ProhibitedState) = 1
failure_number (Some GuardViolated) = 2
failure_number (Some ForbiddenTransition) = 3
failure_number (Some (DeadlineMissed d)) = 4

abbrev pub failure_deadline : Option Failure → ℕ
failure_deadline None = 0
failure_deadline (Some ProhibitedState) = 0
failure_deadline (Some GuardViolated) = 0
failure_deadline (Some ForbiddenTransition) = 0
failure_deadline (Some (DeadlineMissed d)) = d

abbrev pub source_m : Option Source → ℕ → ℕ
source_m None j = 0
source_m (Some s) j = if eqb j 0 then 1 else if eqb j 1 then s.line else s.column

-- eight numbers: the identifier's place, second, index, failure, deadline, source
abbrev pub numbers_m : (id : ℕ) → Reading → List ℕ
numbers_m id r =
    id ∷ r.second ∷ r.index ∷ failure_number r.failure ∷ failure_deadline r.failure
    ∷ source_m r.source 0 ∷ source_m r.source 1 ∷ source_m r.source 2 ∷ []

-- a violation: the place of the invariant's identifier, and the reading with the failing record
pub record Broken : Type 0 where
  pub id : ℕ
  pub reading : Reading

abbrev pub broken_m : Broken → List ℕ
broken_m b = numbers_m b.id b.reading

unfoldable pub violated_m : (id : ℕ) → Reading → List Broken
violated_m id r = if failed_m r.failure then record { id = id; reading = r } ∷ [] else []

pub record Pushed (v : List ℕ) (n id : ℕ) (r : Reading) (v' : List ℕ) (k : ℕ) : Type 0 where
  pub most : k ≤ n + 1
  pub is : (l : List Broken) → length l ≡ n → v ≡ area broken_m (length v) l →
      (v' ≡ area broken_m (length v) (l ++ violated_m id r)) × (k ≡ length (l ++ violated_m id r))

-- ---- what is gathered

pub record Gathered : Type 0 where
  pub violations : List Broken
  pub unknown : List Text
  pub incomplete : List Text

-- the invariant at a position, over the records l
unfoldable pub one_m : (f x : List ℕ) → (at : ℕ) → Cells → List Record → Gathered → Gathered
one_m f x at c l g =
    let r = judge_m f x at c l in
    record {
      violations = g.violations ++ violated_m (two f (cap at + 1)) r;
      unknown = insert_all (renderings f (unknown_m f (cap at) r.memory)) g.unknown;
      incomplete = insert_all (renderings f (incomplete_m f (cap at) r.memory)) g.incomplete;
    }

-- the first n invariants
unfoldable pub first_m : (f x starts : List ℕ) → Cells → List Record → (n : ℕ) → Gathered → Gathered
first_m f x starts c l zero g = g
first_m f x starts c l (suc n) g = one_m f x (get_or starts n 0) c l (first_m f x starts c l n g)

-- the areas hold what is gathered
pub record Keeps (f v u w : List ℕ) (s : Counts) (g : Gathered) : Type 0 where
  pub violations : v ≡ area broken_m (length v) g.violations
  pub many : s.violations ≡ length g.violations
  pub unknown : Holds f g.unknown s.unknown u
  pub incomplete : Holds f g.incomplete s.incomplete w

-- counts grow by at most so much, the areas keep their sizes, and what they hold is changed by F
pub record Changes (F : List Record → Gathered → Gathered) (one two three : ℕ) (f a : List ℕ) (n : ℕ) (s t : Counts)
    (v v' u u' w w' : List ℕ) : Type 0 where
  pub most_violations : t.violations ≤ s.violations + one
  pub most_unknown : t.unknown ≤ s.unknown + two
  pub most_incomplete : t.incomplete ≤ s.incomplete + three
  pub long_v : length v' ≡ length v
  pub long_u : length u' ≡ length u
  pub long_w : length w' ≡ length w
  pub does : (l : List Record) → length l ≡ n → a ≡ recorded (length a) l → (g : Gathered) → Keeps f v u w s g →
      Keeps f v' u' w' t (F l g)

abbrev pub Gathers : (f x : List ℕ) → (at : ℕ) → Cells → (a : List ℕ) → (n : ℕ) → (s t : Counts) →
    (v v' u u' w w' : List ℕ) → Type 0
Gathers f x at c a n = Changes (one_m f x at c) 1 2 1 f a n

abbrev pub GathersAll : (f x starts : List ℕ) → (count : ℕ) → Cells → (a : List ℕ) → (n : ℕ) → (s t : Counts) →
    (v v' u u' w w' : List ℕ) → Type 0
GathersAll f x starts count c a n = Changes (λ (l : List Record). first_m f x starts c l (at_most count 32)) 32 64 32 f a n
