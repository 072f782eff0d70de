-- engine.rs: the simulation of a model, and the entries `simulate` and `unsupported`.
use Rattle.std.specs.Prelude.{ℕ, List}
use Rattle.std.proofs.Math.Option.{Option, none, some}
use Rattle.texts.specs.Lists.{◌▸◌, each, all_lists}
use Rattle.texts.specs.Texts.{Text}
use Rattle.model_spec.specs.Answer.{Answer, answer, refused, all_answers, ◌>>=◌}
use Rattle.model_spec.specs.Model.{Event, Model}
use Rattle.model_spec.specs.Validate.{accepted, all_checks}
use Rattle.engine_spec.specs.Cells.{Cell, initial_cells, all_cells}
use Rattle.engine_spec.specs.Records.{Trace, Areas}
use Rattle.engine_spec.specs.Unsupported.{unsupported, all_unsupported}
use Rattle.engine_spec.specs.Engine.{Ended, begun, loop, closed, all_engine}

pub record Simulation : Type 0 where
  pub trace : List Trace
  pub final_state : List (Text × Text)
  pub unknown : List Text
  pub incomplete : List Text
  pub steps : ℕ
  pub horizon : ℕ

-- an accepted model's loop, from given cells and with given events
unfoldable pub ended : Areas → Model → List Cell → List Event → Ended
ended areas m cells events =
    let limits = m.scenario.limits in
    begun areas m.start cells (unsupported m.rules) events
    ▸ loop m.rules limits.horizon limits.max_steps 0
    ▸ closed limits.horizon

-- what it comes to
unfoldable pub outcome : Model → Ended → Simulation
outcome m d = record {
  trace = d.engine.trace;
  final_state = each (λ c. (c.name, c.value)) d.engine.cells;
  unknown = d.engine.unknown;
  incomplete = d.incomplete;
  steps = d.steps;
  horizon = m.scenario.limits.horizon;
}

-- unless an area overflowed
unfoldable pub unless_full : {A : Type 0} → Option ℕ → A → Answer A
unless_full none a = answer a
unless_full (some n) a = refused n

-- its simulation, or 41 to 43
unfoldable pub simulated : Areas → Model → List Cell → List Event → Answer Simulation
simulated areas m cells events =
    let d = ended areas m cells events in
    unless_full d.engine.overflow (outcome m d)

-- the entry: a model file, from its own values and with its own events
unfoldable pub simulate : Areas → (file : List ℕ) → Answer Simulation
simulate areas file = do
  m ← accepted file
  simulated areas m (initial_cells m.scenario.entities) m.scenario.events

-- the entry `unsupported`; `validate` goes ahead of it
unfoldable pub unsupported_of : (file : List ℕ) → Answer (List Text)
unsupported_of file = do
  m ← accepted file
  answer (unsupported m.rules)

-- opens the file, for proofs by computation
unfoldable pub all_simulate : Unit {0}
unfolding all_lists all_answers all_checks all_cells all_unsupported all_engine ended outcome unless_full simulated simulate
    unsupported_of
all_simulate = tt
