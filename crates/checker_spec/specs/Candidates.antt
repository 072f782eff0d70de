-- check.rs validates each candidate of a search and of a reduction before it is simulated; `Verify` and `Minimize` simulate
-- it at once. That is the same, because no candidate of an accepted model is refused.
use Rattle.std.specs.Prelude.{ℕ, ◌+◌, ◌≤◌, ◌≡◌, length}
use mathlib.Core.List.{List, [], ◌∷◌, ◌++◌, Memᴰ}
use Rattle.model_spec.specs.Answer.{Answer, answer, ◌>>=◌}
use Rattle.model_spec.specs.Model.{Input, Event, Scenario, Model, with_events}
use Rattle.model_spec.specs.Events.{Some}
use Rattle.model_spec.specs.Validate.{validate}
use Rattle.engine_spec.specs.Cells.{initial_cells}
use Rattle.engine_spec.specs.Records.{Areas}
use Rattle.checker_spec.specs.Check.{Check, checked}
use Rattle.checker_spec.specs.Verify.{last_at}

-- the events that a search places: each with one of the inputs, at one of the gaps behind the one before it, and within
-- the horizon
pub data Placed (s : Scenario) : List Event → Type 0 where
  nothing_yet : Placed s []
  one_more : {vs : List Event} {g : ℕ} {i : Input} → Placed s vs → Memᴰ g s.gaps → Memᴰ i s.alphabet
      → last_at vs + g ≤ s.limits.horizon → Placed s (vs ++ record { at = last_at vs + g; input = i } ∷ [])

-- the events of a case that a search of the model may check
pub record Case (m : Model) (vs : List Event) : Type 0 where
  pub placed : Placed m.scenario vs
  pub depth : length vs ≤ m.scenario.limits.search_depth

-- `validate` accepts the model with these events
abbrev pub Accepts : Model → List Event → Type 0
Accepts m vs = validate (with_events vs m) ≡ answer (with_events vs m)

-- Rust's `check` of a candidate: the model is validated, then checked from its entities' values with its events
unfoldable pub check_model : Areas → Model → Answer Check
check_model areas m =
    validate m >>= λ n. checked areas n (initial_cells n.scenario.entities) n.scenario.events

-- no candidate is refused: neither a search's cases nor what a reduction tries, some of the model's events
pub record Candidates (m : Model) : Type 0 where
  pub cases : (vs : List Event) → Case m vs → Accepts m vs
  pub reductions : (vs : List Event) → Some vs m.scenario.events → Accepts m vs
  -- and so its check is the one that `Verify` and `Minimize` make
  pub checks : (areas : Areas) (vs : List Event) → Accepts m vs →
      check_model areas (with_events vs m) ≡ checked areas m (initial_cells m.scenario.entities) vs
