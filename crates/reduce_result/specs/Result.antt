-- The answer of `minimize` to a refusal.
use Rattle.std.specs.Prelude.{ℕ, false, replicate}
use Rattle.layout.specs.Sizes.{event_word_count}
use Rattle.model_spec.specs.Answer.{refused}
use Rattle.checker_result.specs.Result.{no_check}
use Rattle.reduce_result.specs.declared.Minimized.{Minimized}

unfoldable pub no_reduction : (number : ℕ) → Minimized
no_reduction n = record {
  refused = n;
  invariant = 0;
  original_events = 0;
  attempts = 0;
  deletion_minimal = false;
  events = 0;
  words = replicate event_word_count 0;
  written = 0;
  check = no_check n;
}
