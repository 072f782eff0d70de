-- Areas that hold at least as many entries. What isn't refused in areas is the same in larger ones.
use Rattle.std.specs.Prelude.{◌≤◌, ◌≡◌, List}
use Rattle.model_spec.specs.Answer.{answer}
use Rattle.model_spec.specs.Model.{Event, Model}
use Rattle.engine_spec.specs.Cells.{Cell}
use Rattle.engine_spec.specs.Records.{Areas}
use Rattle.engine_spec.specs.Simulate.{Simulation, simulated}

pub record Larger (a b : Areas) : Type 0 where
  pub queue : a.queue ≤ b.queue
  pub records : a.records ≤ b.records
  pub runs : a.runs ≤ b.runs

-- whatever the model, the cells and the events
abbrev pub SameInLarger : Type 0
SameInLarger =
    (a b : Areas) → Larger a b → (m : Model) (cells : List Cell) (events : List Event) (s : Simulation)
    → simulated a m cells events ≡ answer s → simulated b m cells events ≡ answer s
