-- The verdict on a simulation.
use Rattle.std.specs.Prelude.{ℕ, ◌+◌, ◌*◌, ◌≤◌, ◌≡◌, Bool, List, [], ◌∷◌, map, eqb, length, if◌then◌else◌}
use Rattle.layout.specs.Sizes.{incomplete_reasons, simulation_reasons, verdict_reasons, violation_numbers}
use Rattle.records.specs.Records.{recorded}
use Rattle.records.specs.declared.Record.{Record}
use Rattle.reasons.specs.Kinds as kinds
use Rattle.reasons.specs.Readable.{HasText}
use Rattle.reasons.specs.Lists.{listed, insert_all, Clean, Grows}
use Rattle.reasons.specs.Reasons.{render}
use Rattle.reasons.specs.declared.Reason.{Reason}
use Rattle.bounds.specs.Bounds.{at_most}
use Rattle.engine_fields.specs.Fields.{alone}
use Rattle.engine_state.specs.declared.Cells.{Cells}
use Rattle.engine_summary.specs.declared.Simulation.{Simulation}
use Rattle.engine_summary.specs.declared.Summary.{Summary}
use Rattle.checker_collect.specs.declared.Counts.{Counts}
use Rattle.checker_collect.specs.Collect.{Gathered, first_m, Keeps}
use Rattle.checker_result.specs.declared.Status.{Status}
use Rattle.checker_result.specs.declared.Status.TheVariants as status
use Rattle.checker_result.specs.declared.CheckResult.{CheckResult}
use Rattle.checker_result.specs.declared.Judgement.{Judgement}
use Rattle.checker_result.specs.declared.Shared.{Shared}
use Rattle.checker_result.specs.Result.{no_check, result_of}

-- at most as many records as the area holds
pub record Fits (n len r : ℕ) : Type 0 where
  pub most : r * 13 ≤ len
  pub same : n * 13 ≤ len → r ≡ n

unfoldable pub status_m : Counts → Status
status_m t =
    if eqb t.unknown 0 then
    (if eqb t.violations 0 then (if eqb t.incomplete 0 then status.NoViolationInTrace else status.Incomplete)
    else status.Violation)
    else status.Unknown

-- why a simulation is incomplete, as reasons
unfoldable pub stopped_m : (why : ℕ) → List Reason
stopped_m w = if eqb w 0 then [] else if eqb w 1 then alone kinds.space_spent ∷ [] else alone kinds.steps_spent ∷ []

unfoldable pub left_m : (waiting : Bool) → List Reason
left_m b = if b then alone kinds.runs_left ∷ [] else []

pub record Starts (f : List ℕ) (why : ℕ) (w : List ℕ) (k : ℕ) (w' : List ℕ) : Type 0 where
  pub most : k ≤ 1
  pub grows : Grows f (Unit {0}) (insert_all (map (render f) (stopped_m why)) (listed f 0 w)) 0 w k w'

pub record Ends (f : List ℕ) (waiting : Bool) (n : ℕ) (w : List ℕ) (k : ℕ) (w' : List ℕ) : Type 0 where
  pub most : k ≤ n + 1
  pub grows : Grows f (Unit {0}) (insert_all (map (render f) (left_m waiting)) (listed f n w)) n w k w'

-- what is gathered before the first invariant
unfoldable pub start_m : List ℕ → Simulation → Gathered
start_m f s = record {
  violations = [];
  unknown = insert_all (listed f s.unknown s.reasons) [];
  incomplete = insert_all (map (render f) (left_m s.runs_left))
      (insert_all (map (render f) (stopped_m s.stop_reason)) []);
}

abbrev pub counts : CheckResult → Counts
counts r = record { violations = r.violations; unknown = r.unknown; incomplete = r.incomplete }

-- the verdict on the records in the area a, whatever they are, for so many invariants at their positions
pub record Verdict (f x starts : List ℕ) (many : ℕ) (c : Cells) (a : List ℕ) (r : CheckResult) : Type 0 where
  pub status_is : r.status ≡ status_m (counts r)
  pub long : length r.violated ≡ violation_numbers
  pub few_unknown : r.unknown ≤ verdict_reasons
  pub few_incomplete : r.incomplete ≤ incomplete_reasons
  pub holds : r.simulation.unknown ≤ simulation_reasons →
      (HasText f → Clean f r.simulation.unknown r.simulation.reasons) →
      (l : List Record) → length l ≡ r.simulation.records → r.simulation.records * 13 ≤ length a →
      a ≡ recorded (length a) l →
      Keeps f r.violated r.unknowns r.incompletes (counts r)
      (first_m f x starts c l (at_most many 32) (start_m f r.simulation))

-- the judgement of a simulation whose reasons' words are u
pub record Judged (f x starts : List ℕ) (h : Shared) (a : List ℕ) (s : Summary) (r : Judgement)
    (u v us ws : List ℕ) : Type 0 where
  pub simulation : r.simulation ≡ s
  pub verdict : Verdict f x starts h.invariants h.cells a (result_of r v us ws u)

-- the answer r of the check c: a refusal is nothing but its number
pub record Answered (c r : CheckResult) : Type 0 where
  pub done : c.simulation.refused ≡ 0 → r ≡ c
  pub full : (c.simulation.refused ≡ 0 → ⊥) → r ≡ no_check c.simulation.refused
