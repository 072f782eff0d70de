-- check.rs: the verdict on a simulation, and the entry `check`.
use Rattle.std.specs.Prelude.{ℕ, Bool, true, false, not, List, [], ◌∷◌, ◌++◌, if◌then◌else◌}
use Rattle.std.proofs.Math.Option.{Option, none, some}
use Rattle.texts.specs.Lists.{is_empty, flat, all_lists}
use Rattle.texts.specs.Texts.{Text, text, sorted_t, all_texts}
use Rattle.model_spec.specs.Answer.{Answer, answer, all_answers, ◌>>=◌}
use Rattle.model_spec.specs.Model.{Source, Event, Invariant, id_of, Model, all_model}
use Rattle.model_spec.specs.Validate.{accepted, all_checks}
use Rattle.engine_spec.specs.Cells.{Cell, initial_cells, all_cells}
use Rattle.engine_spec.specs.Records.{Areas}
use Rattle.engine_spec.specs.Simulate.{Simulation, simulated, all_simulate}
use Rattle.checker_spec.specs.Judge.{
  Failure,
  Failing,
  Reading,
  read_all,
  unknown_reasons,
  incomplete_reasons,
  all_judge,
}

-- Rust's `message` is the failure, written out
pub record Violation : Type 0 where
  pub invariant : Text
  pub at : ℕ
  pub index : ℕ
  pub source : Option Source
  pub failure : Failure

pub data Status : Type 0 where
  unknown violation incomplete no_violation_in_trace : Status

pub record Check : Type 0 where
  pub status : Status
  pub violations : List Violation
  pub unknown : List Text
  pub incomplete : List Text
  pub simulation : Simulation

-- as Rust writes it
unfoldable pub status_name : Status → Text
status_name Status.unknown = text "unknown"
status_name Status.violation = text "violation"
status_name Status.incomplete = text "incomplete"
status_name no_violation_in_trace = text "no_violation_in_trace"

unfoldable pub is_violation : Status → Bool
is_violation Status.unknown = false
is_violation Status.violation = true
is_violation Status.incomplete = false
is_violation no_violation_in_trace = false

-- unknown before violation before incomplete
unfoldable pub status_of : List Violation → (unknown incomplete : List Text) → Status
status_of vs us is =
    if not (is_empty us) then Status.unknown
    else if not (is_empty vs) then Status.violation
    else if not (is_empty is) then Status.incomplete
    else no_violation_in_trace

unfoldable pub violation_of : Invariant → Option Failing → List Violation
violation_of i none = []
violation_of i (some f) = record {
  invariant = id_of i;
  at = f.at;
  index = f.index;
  source = f.source;
  failure = f.failure;
} ∷ []

-- the verdict on a simulation that started from these cells
unfoldable pub judged : List Invariant → List Cell → Simulation → Check
judged is cells sim =
    let reading_for : Invariant → Reading = λ i. read_all i cells sim.trace in
    let violations = flat (λ i. violation_of i (reading_for i).failing) is in
    let unknown = sorted_t (sim.unknown ++ flat (λ i. unknown_reasons i (reading_for i).memory) is) in
    let incomplete = sorted_t (sim.incomplete ++ flat (λ i. incomplete_reasons i (reading_for i).memory) is) in
    record {
      status = status_of violations unknown incomplete;
      violations = violations;
      unknown = unknown;
      incomplete = incomplete;
      simulation = sim;
    }

-- the check of an accepted model, from given cells and with given events; 41 to 43
unfoldable pub checked : Areas → Model → List Cell → List Event → Answer Check
checked areas m cells events = do
  sim ← simulated areas m cells events
  answer (judged m.scenario.invariants cells sim)

-- the entry
unfoldable pub check : Areas → (file : List ℕ) → Answer Check
check areas file = do
  m ← accepted file
  checked areas m (initial_cells m.scenario.entities) m.scenario.events

-- opens the file, for proofs by computation
unfoldable pub all_check : Unit {0}
unfolding all_lists all_texts all_answers all_checks all_cells all_simulate all_judge all_model status_name is_violation
    status_of violation_of judged checked check
all_check = tt
