-- An answer of `verify` and its lists as one value.
use Rattle.std.specs.Prelude.{ℕ, false, List, replicate}
use Rattle.layout.specs.Sizes.{verdict_reason_words}
use Rattle.checker_result.specs.declared.CheckResult.{CheckResult}
use Rattle.checker_result.specs.Result.{no_check}
use Rattle.checker_result.specs.Result as check
use Rattle.search_answer.specs.declared.Found.TheVariants as found
use Rattle.search_answer.specs.declared.Searched.{Searched}
use Rattle.search_answer.specs.declared.Verification.{Verification}

-- ---- the answer

-- an answer, its lists, and those of its check
abbrev pub whole_of : Searched → (told violated unknowns incompletes reasons : List ℕ) → Verification
whole_of x t v us ws s = record {
  status = x.status;
  cases = x.cases;
  total_steps = x.total_steps;
  depth = x.depth;
  horizon = x.horizon;
  max_cases = x.max_cases;
  max_steps_per_case = x.max_steps_per_case;
  alphabet = x.alphabet;
  inputs = x.inputs;
  gaps = x.gaps;
  seconds = x.seconds;
  reasons = x.reasons;
  told = t;
  shortest = x.shortest;
  events = x.events;
  words = x.words;
  written = x.written;
  check = check.result_of x.check v us ws s;
}

-- an answer that says no more than its number, with a check beside it
abbrev pub unverified : (number : ℕ) → CheckResult → Verification
unverified n c = record {
  status = found.Refused n;
  cases = 0;
  total_steps = 0;
  depth = 0;
  horizon = 0;
  max_cases = 0;
  max_steps_per_case = 0;
  alphabet = 0;
  inputs = replicate 36 0;
  gaps = 0;
  seconds = replicate 4 0;
  reasons = 0;
  told = replicate verdict_reason_words 0;
  shortest = false;
  events = 0;
  words = replicate 20 0;
  written = 0;
  check = c;
}

unfoldable pub no_verification : (number : ℕ) → Verification
no_verification n = unverified n (no_check 0)
