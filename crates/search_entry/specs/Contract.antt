-- What `verify` answers, by the definitions of crate `checker_spec`: each number of the answer, each word of the lent areas,
-- each byte of the output.
use Rattle.std.specs.Prelude.{ℕ, ◌≡◌, List, [], ◌++◌, length, drop, replicate}
use Rattle.std.proofs.Math.Option.{Option, none, some}
use Rattle.areas.specs.Areas.{area}
use Rattle.model_spec.specs.Answer.{Answer, answer, refused}
use Rattle.model_spec.specs.Rewrite.{rewritten}
use Rattle.reasons.specs.Lists.{Reported}
use Rattle.engine_spec.specs.Memory.{Lent, entries, lent_after}
use Rattle.engine_spec.specs.Records.{Trace}
use Rattle.engine_spec.specs.Words.{texts_in, words_in, entry_words}
use Rattle.checker_spec.specs.Verify as verify
use Rattle.checker_result.specs.Result.{no_check}
use Rattle.checker_entry.specs.Contract as check
use Rattle.model_spec.specs.Events.{input_words, event_words}
use Rattle.search_inputs.specs.GapWords.{gap_words}
use Rattle.search_answer.specs.declared.Found.{Found}
use Rattle.search_answer.specs.declared.Found.TheVariants as found
use Rattle.search_answer.specs.declared.Verification.{Verification}
use Rattle.search_answer.specs.Result.{no_verification}

-- the status by its name in the scope
abbrev pub found_as : verify.Found → Found
found_as verify.no_counterexample_within_bounds = found.NoCounterexampleWithinBounds
found_as verify.counterexample = found.Counterexample
found_as verify.inconclusive = found.Inconclusive

-- ---- the witness

pub record NoWitness (r : Verification) : Type 0 where
  pub events : r.events ≡ 0
  pub words : r.words ≡ replicate 20 0
  pub written : r.written ≡ 0
  pub check : r.check ≡ no_check 0

pub record Witnesses (f : List ℕ) (r : Verification) (w : verify.Witness) : Type 0 where
  pub events : r.events ≡ length w.events
  pub words : r.words ≡ area (event_words (texts_in f)) 20 w.events
  pub written : r.written ≡ length (rewritten f w.events)
  pub check : check.Shows f r.check w.check

abbrev pub WitnessSays : (file : List ℕ) → Verification → Option verify.Witness → Type 0
WitnessSays f r none = NoWitness r
WitnessSays f r (some w) = Witnesses f r w

-- ---- the answer

-- The answer says what the definition's search says; each reason can be read, and zeros stand behind the last. Which of two
-- reasons with the same rendering stands there is left free.
pub record Shows (f : List ℕ) (r : Verification) (v : verify.Verification) : Type 0 where
  pub status_is : r.status ≡ found_as v.status
  pub cases : r.cases ≡ v.cases
  pub total_steps : r.total_steps ≡ v.total_steps
  pub depth : r.depth ≡ v.depth
  pub horizon : r.horizon ≡ v.horizon
  pub max_cases : r.max_cases ≡ v.max_cases
  pub max_steps_per_case : r.max_steps_per_case ≡ v.max_steps_per_case
  pub alphabet : r.alphabet ≡ length v.alphabet
  pub inputs : r.inputs ≡ area (input_words (texts_in f)) 36 v.alphabet
  pub gaps : r.gaps ≡ length v.gaps
  pub seconds : r.seconds ≡ area gap_words 4 v.gaps
  pub reasons : Reported f v.reasons r.reasons r.told
  pub shortest : r.shortest ≡ v.shortest
  pub witness : WitnessSays f r v.witness

abbrev pub Says : (file : List ℕ) → Verification → Answer verify.Verification → Type 0
Says f r (answer v) = Shows f r v
Says f r (refused n) = r ≡ no_verification n

-- ---- the areas and the output

-- the records that the record area then holds: those of the witness
unfoldable pub witness_trace : verify.Verification → List Trace
witness_trace v = elim v.witness [ none ↦ [] | some w ↦ w.check.simulation.trace ]

-- the output then begins with the witness's file, if there is a witness
unfoldable pub output_after : (file : List ℕ) → Answer verify.Verification → (output : List ℕ) → List ℕ
output_after f (answer v) o = elim (verify.witness_file f v) [ none ↦ o | some b ↦ b ++ drop (length b) o ]
output_after f (refused n) o = o

pub record Gives (f : List ℕ) (r : Verification) (v : Answer verify.Verification) (before after : Lent)
    (o o' : List ℕ) : Type 0 where
  pub says : Says f r v
  pub memory : after ≡ lent_after (words_in f) witness_trace v before
  pub output : o' ≡ output_after f v o

-- the entry `verify`: its answer, each word of the areas and each byte of the output afterwards
abbrev pub Verifies : (file : List ℕ) → Verification → (before after : Lent) → (o o' : List ℕ) → Type 0
Verifies f r before after o o' = Gives f r (verify.verify (entries entry_words before) (length o) f) before after o o'
