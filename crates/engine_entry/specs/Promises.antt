-- What the parts of the entries promise.
use Rattle.std.specs.Prelude.{ℕ, ◌≡◌, List, length, get_or}
use Rattle.layout.specs.Table.{entity_count_word, horizon_word}
use Rattle.layout.specs.Sizes.{simulation_reasons}
use Rattle.bounds.specs.Bounds.{AtMost, at_most}
use Rattle.model_spec.specs.Answer.{answer}
use Rattle.model_spec.specs.Model.{Model}
use Rattle.model_spec.specs.Validate.{accepted}
use Rattle.model_index.specs.declared.Index.{Index}
use Rattle.model_index.specs.Indexed.{Indexed}
use Rattle.engine_spec.specs.Memory.{Lent}
use Rattle.engine_run.specs.Run as run
use Rattle.engine_run.specs.declared.Simulation.{Simulation as Run}
use Rattle.engine_summary.specs.declared.Simulation.{Simulation}
use Rattle.engine_entry.specs.Contract.{Simulates}
use Rattle.engine_entry.specs.Prepared.{Prepared}
use Rattle.engine_summary.specs.Summaries.{ShownAs}

-- a run from the ground g with n events, and its answer
pub record Ran (f : List ℕ) (g : Prepared) (events : List ℕ) (n : ℕ) (s : Simulation)
    (q q' a a' r r' : List ℕ) : Type 0 where
  pub told : Run
  pub words : List ℕ
  pub count : ℕ
  pub few : AtMost g.count simulation_reasons count
  pub does : run.Simulates f g.table events n g.cells count told q q' a a' r r' g.reasons words
  pub long : length words ≡ length g.reasons
  pub shown : ShownAs told (at_most (get_or g.table entity_count_word 0) 32) (get_or g.table horizon_word 0) words s

-- the simulation of the model whose index this is
abbrev pub RunsAs : (f : List ℕ) → Index → Simulation → (before after : Lent) → Type 0
RunsAs f i s before after = (m : Model) → accepted f ≡ answer m → Indexed f i m → Simulates f s before after
