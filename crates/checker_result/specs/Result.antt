-- The answer of `check` as one value.
use Rattle.std.specs.Prelude.{ℕ, List, replicate}
use Rattle.layout.specs.Sizes.{incomplete_reason_words, verdict_reason_words, violation_numbers}
use Rattle.engine_summary.specs.Summary.{no_simulation, simulation_of}
use Rattle.checker_result.specs.declared.Status.TheVariants as status
use Rattle.checker_result.specs.declared.CheckResult.{CheckResult}
use Rattle.checker_result.specs.declared.Judgement.{Judgement}

unfoldable pub no_check : (number : ℕ) → CheckResult
no_check n = record {
  status = status.Refused n;
  violations = 0;
  violated = replicate violation_numbers 0;
  unknown = 0;
  unknowns =
      replicate verdict_reason_words 0;
  incomplete = 0;
  incompletes = replicate incomplete_reason_words 0;
  simulation = no_simulation n;
}

-- a judgement, its lists and its reasons' words
abbrev pub result_of : Judgement → (violated unknowns incompletes reasons : List ℕ) → CheckResult
result_of j v u w s = record {
  status = j.status;
  violations = j.violations;
  violated = v;
  unknown = j.unknown;
  unknowns =
      u;
  incomplete = j.incomplete;
  incompletes = w;
  simulation = simulation_of j.simulation s;
}
