-- Where each answer's numbers stand in the lent slice (include/fukhtsege.h): `written a at w` is a with w from `at` on.
use Rattle.std.specs.Prelude.{ℕ, ◌+◌, Bool, true, false, List, [], ◌∷◌}
use Rattle.areas.specs.Areas.{written}
use Rattle.model_validate.specs.declared.Validity.{Validity}
use Rattle.model_validate.specs.declared.Validity.TheVariants as validity
use Rattle.engine_entry.specs.declared.Notes.{Notes}
use Rattle.engine_summary.specs.declared.Simulation.{Simulation}
use Rattle.checker_result.specs.declared.Status.{Status}
use Rattle.checker_result.specs.declared.Status.TheVariants as status
use Rattle.checker_result.specs.declared.CheckResult.{CheckResult}
use Rattle.search_answer.specs.declared.Found.{Found}
use Rattle.search_answer.specs.declared.Found.TheVariants as found
use Rattle.search_answer.specs.declared.Searched.{Searched}
use Rattle.search_answer.specs.declared.Verification.{Verification}
use Rattle.reduce_result.specs.declared.Minimized.{Minimized}
use Rattle.lint_entry.specs.declared.Report.{Report}
use Rattle.cone_entry.specs.declared.ConeResult.{ConeResult}

abbrev pub flag_of : Bool → ℕ
flag_of true = 1
flag_of false = 0

-- the result of `fukhtsege_validate`
abbrev pub validity_number : Validity → ℕ
validity_number validity.Accepted = 0
validity_number (validity.Refused n) = n

-- ---- unsupported

unfoldable pub laid_notes : (head reasons a : List ℕ) → List ℕ
laid_notes head reasons a = written (written a 0 head) 4 reasons

unfoldable pub notes_in : Notes → List ℕ → List ℕ
notes_in r a = laid_notes (r.count ∷ 0 ∷ 0 ∷ 0 ∷ []) r.reasons a

-- ---- simulate

unfoldable pub laid_simulation : (at : ℕ) → (head values reasons a : List ℕ) → List ℕ
laid_simulation at head values reasons a = written (written (written a at head) (at + 8) values) (at + 40) reasons

unfoldable pub simulation_in : (at : ℕ) → Simulation → List ℕ → List ℕ
simulation_in at s a =
    laid_simulation at (s.steps ∷ s.records ∷ s.horizon ∷ s.unknown ∷ s.stop_reason ∷ flag_of
    s.runs_left ∷ 0 ∷ 0 ∷ []) s.values s.reasons a

-- ---- check

abbrev pub status_number : Status → ℕ
status_number (status.Refused n) = 0
status_number status.Unknown = 1
status_number status.Violation = 2
status_number status.Incomplete = 3
status_number status.NoViolationInTrace = 4

unfoldable pub laid_check : (at : ℕ) → (head violated unknowns incompletes a : List ℕ) → List ℕ
laid_check at head violated unknowns incompletes a =
    written (written (written (written a at head) (at + 4) violated) (at + 260) unknowns) (at + 2260) incompletes

unfoldable pub check_in : (at : ℕ) → CheckResult → List ℕ → List ℕ
check_in at c a =
    simulation_in (at + 2460) c.simulation
    (laid_check at (status_number c.status ∷ c.violations ∷ c.unknown ∷ c.incomplete ∷ []) c.violated c.unknowns
    c.incompletes a)

-- ---- verify

abbrev pub found_number : Found → ℕ
found_number (found.Refused n) = 0
found_number found.NoCounterexampleWithinBounds = 1
found_number found.Counterexample = 2
found_number found.Inconclusive = 3

abbrev pub refusal_of : Found → ℕ
refusal_of (found.Refused n) = n
refusal_of found.NoCounterexampleWithinBounds = 0
refusal_of found.Counterexample = 0
refusal_of found.Inconclusive = 0

unfoldable pub laid_search : (head inputs seconds words told a : List ℕ) → List ℕ
laid_search head inputs seconds words told a =
    written (written (written (written (written a 0 head) 16 inputs) 52 seconds) 56 words) 76 told

-- the numbers of a search, with its reasons' words
unfoldable pub search_in : Searched → (told a : List ℕ) → List ℕ
search_in v told a =
    laid_search (found_number
    v.status ∷ v.cases ∷ v.total_steps ∷ v.depth ∷ v.horizon ∷ v.max_cases ∷ v.max_steps_per_case ∷ v.alphabet ∷ v.gaps ∷ v.reasons ∷ flag_of v.shortest ∷ v.events ∷ v.written ∷ 0 ∷ 0 ∷ 0 ∷ []) v.inputs
    v.seconds v.words told a

unfoldable pub verification_in : Verification → List ℕ → List ℕ
verification_in v a =
    check_in 2076 v.check
    (laid_search (found_number
    v.status ∷ v.cases ∷ v.total_steps ∷ v.depth ∷ v.horizon ∷ v.max_cases ∷ v.max_steps_per_case ∷ v.alphabet ∷ v.gaps ∷ v.reasons ∷ flag_of v.shortest ∷ v.events ∷ v.written ∷ 0 ∷ 0 ∷ 0 ∷ []) v.inputs
    v.seconds v.words v.told a)

-- ---- minimize

unfoldable pub laid_reduction : (head words a : List ℕ) → List ℕ
laid_reduction head words a = written (written a 0 head) 8 words

unfoldable pub minimized_in : Minimized → List ℕ → List ℕ
minimized_in m a =
    check_in 408 m.check
    (laid_reduction (m.invariant ∷ m.original_events ∷ m.attempts ∷ flag_of
    m.deletion_minimal ∷ m.events ∷ m.written ∷ 0 ∷ 0 ∷ []) m.words a)

-- ---- lint

unfoldable pub laid_report : (head cycles reads writes names readers a : List ℕ) → List ℕ
laid_report head cycles reads writes names readers a =
    written (written (written (written (written (written a 0 head) 4 cycles) 36 reads) 68 writes) 100 names) 164 readers

unfoldable pub report_in : Report → List ℕ → List ℕ
report_in r a =
    laid_report (r.findings ∷ r.interactions ∷ r.components ∷ r.undeclared ∷ []) r.cycles r.reads r.writes
    r.names r.readers a

-- ---- cone

unfoldable pub laid_cone : (head names a : List ℕ) → List ℕ
laid_cone head names a = written (written a 0 head) 4 names

unfoldable pub cone_in : ConeResult → List ℕ → List ℕ
cone_in r a = laid_cone (r.entities ∷ r.automations ∷ r.undeclared ∷ 0 ∷ []) r.names a
