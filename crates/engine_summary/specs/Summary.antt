-- The answer of `simulate` as one value.
use Rattle.std.specs.Prelude.{ℕ, ◌-◌, false, List, replicate}
use Rattle.layout.specs.Sizes.{simulation_reason_words}
use Rattle.model_spec.specs.Answer.{refused}
use Rattle.engine_summary.specs.declared.Simulation.{Simulation}
use Rattle.engine_summary.specs.declared.Summary.{Summary}

-- ---- simulate

unfoldable pub no_simulation : (number : ℕ) → Simulation
no_simulation n = record {
  refused = n;
  steps = 0;
  records = 0;
  horizon = 0;
  values = replicate 32 0;
  unknown = 0;
  reasons =
      replicate simulation_reason_words 0;
  stop_reason = 0;
  runs_left = false;
}

-- a summary and its reasons' words
abbrev pub simulation_of : Summary → (reasons : List ℕ) → Simulation
simulation_of s w = record {
  refused = s.refused;
  steps = s.steps;
  records = s.records;
  horizon = s.horizon;
  values =
      s.values;
  unknown = s.unknown;
  reasons = w;
  stop_reason = s.stop_reason;
  runs_left = s.runs_left;
}
