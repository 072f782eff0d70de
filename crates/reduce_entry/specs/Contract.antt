-- What `minimize` answers, by the definitions of crate `checker_spec`: each number of the answer, each word of the lent
-- areas, and each byte of the output.
use Rattle.std.specs.Prelude.{ℕ, ◌≡◌, List, ◌++◌, length, drop}
use Rattle.layout.specs.Sizes.{event_word_count}
use Rattle.areas.specs.Areas.{area}
use Rattle.model_spec.specs.Answer.{Answer, answer, refused}
use Rattle.model_spec.specs.Rewrite.{place_of}
use Rattle.engine_spec.specs.Memory.{Lent, entries, lent_after}
use Rattle.engine_spec.specs.Records.{Trace}
use Rattle.engine_spec.specs.Words.{texts_in, words_in, entry_words}
use Rattle.checker_spec.specs.Minimize.{minimize, reduced_file}
use Rattle.checker_spec.specs.Minimize as checker
use Rattle.checker_entry.specs.Contract as check
use Rattle.model_spec.specs.Events.{event_words}
use Rattle.reduce_result.specs.declared.Minimized.{Minimized}
use Rattle.reduce_result.specs.Result.{no_reduction}

-- the answer says what the definition's reduction says
pub record Shows (f : List ℕ) (r : Minimized) (d : checker.Minimized) : Type 0 where
  pub accepted : r.refused ≡ 0
  pub invariant : r.invariant ≡ place_of d.invariant (texts_in f)
  pub original_events : r.original_events ≡ d.original_events
  pub attempts : r.attempts ≡ d.attempts
  pub deletion_minimal : r.deletion_minimal ≡ d.deletion_minimal
  pub events : r.events ≡ length d.events
  pub words : r.words ≡ area (event_words (texts_in f)) event_word_count d.events
  pub written : r.written ≡ length (reduced_file f d)
  pub check : check.Shows f r.check d.check

abbrev pub Says : (file : List ℕ) → Minimized → Answer checker.Minimized → Type 0
Says f r (answer d) = Shows f r d
Says f r (refused n) = r ≡ no_reduction n

-- the records of the last check
abbrev pub last_trace : checker.Minimized → List Trace
last_trace d = d.check.simulation.trace

-- the output afterwards: the reduced file, then the bytes that came; refusals leave all as it came
unfoldable pub output_after : (file : List ℕ) → Answer checker.Minimized → (output : List ℕ) → List ℕ
output_after f (answer d) o = reduced_file f d ++ drop (length (reduced_file f d)) o
output_after f (refused n) o = o

-- the entry `minimize`: its answer, each word of the areas afterwards, and each byte of the output
pub record Minimizes (f : List ℕ) (r : Minimized) (before after : Lent) (o o' : List ℕ) : Type 0 where
  pub says : Says f r (minimize (entries entry_words before) (length o) f)
  pub memory : after ≡ lent_after (words_in f) last_trace (minimize (entries entry_words before) (length o) f) before
  pub output : o' ≡ output_after f (minimize (entries entry_words before) (length o) f) o
