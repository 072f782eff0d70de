-- What a run tells, as an answer.
use Rattle.std.specs.Prelude.{ℕ, ◌≤◌, ◌<◌, ◌≡◌, List, length, get_or}
use Rattle.model_spec.specs.Validate.{accepted}
use Rattle.engine_summary.specs.declared.Simulation.{Simulation}
use Rattle.engine_summary.specs.declared.Summary.{Summary}
use Rattle.engine_summary.specs.Summary.{no_simulation, simulation_of}
use Rattle.engine_run.specs.declared.Simulation.{Simulation as Run}

-- the first n of 32 values, then zeros
pub record Firsts (vs : List ℕ) (n : ℕ) (r : List ℕ) : Type 0 where
  pub long : length r ≡ 32
  pub first : (e : ℕ) → e < n → get_or r e 0 ≡ get_or vs e 0
  pub rest : (e : ℕ) → n ≤ e → e < 32 → get_or r e 0 ≡ 0

-- the answer repeats that of the run
pub record Repeats (s : Run) (n h : ℕ) (u : List ℕ) (r : Simulation) : Type 0 where
  pub accepted : r.refused ≡ 0
  pub steps : r.steps ≡ s.steps
  pub records : r.records ≡ s.records
  pub horizon : r.horizon ≡ h
  pub values : Firsts s.values n r.values
  pub unknown : r.unknown ≡ s.reasons
  pub reasons : r.reasons ≡ u
  pub stop_reason : r.stop_reason ≡ s.stop_reason
  pub runs_left : r.runs_left ≡ s.runs_left

pub record ShownAs (s : Run) (n h : ℕ) (u : List ℕ) (r : Simulation) : Type 0 where
  pub done : s.refused ≡ 0 → Repeats s n h u r
  pub full : (s.refused ≡ 0 → ⊥) → r.refused ≡ s.refused

-- whatever the words of its reasons
abbrev pub Summed : Run → (n h : ℕ) → Summary → Type 0
Summed s n h r = (u : List ℕ) → ShownAs s n h u (simulation_of r u)

-- the answer r of the simulation s: a refusal is nothing but its number
pub record Answered (s r : Simulation) : Type 0 where
  pub done : s.refused ≡ 0 → r ≡ s
  pub full : (s.refused ≡ 0 → ⊥) → r ≡ no_simulation s.refused
