-- The answer that repeats what a search and its witness are.
use Rattle.std.specs.Prelude.{ℕ, ◌≤◌, ◌≡◌, Bool, List, [], eqb, replicate, if◌then◌else◌}
use Rattle.layout.specs.Sizes.{verdict_reasons}
use Rattle.reasons.specs.Readable.{HasText}
use Rattle.reasons.specs.Lists.{listed, insert_all, Clean, Holds}
use Rattle.checker_result.specs.declared.CheckResult.{CheckResult}
use Rattle.checker_result.specs.Result as check
use Rattle.search_inputs.specs.declared.Alphabet.{Alphabet}
use Rattle.search_inputs.specs.declared.Gaps.{Gaps}
use Rattle.search_cases.specs.declared.Search.{Search}
use Rattle.search_cases.specs.Promises.{limit_m}
use Rattle.search_answer.specs.declared.Found.{Found}
use Rattle.search_answer.specs.declared.Found.TheVariants as found
use Rattle.search_answer.specs.declared.Verification.{Verification}
use Rattle.search_answer.specs.declared.Witness.{Witness}

unfoldable pub status_m : (found : Bool) → (reasons : ℕ) → Found
status_m b n = if b then found.Counterexample else if eqb n 0 then found.NoCounterexampleWithinBounds else found.Inconclusive

-- a witness with the whole of its check
pub record WithCheck : Type 0 where
  pub events : ℕ
  pub words : List ℕ
  pub written : ℕ
  pub check : CheckResult

abbrev pub with_check : Witness → CheckResult → WithCheck
with_check x c = record { events = x.events; words = x.words; written = x.written; check = c }

-- an answer that repeats what it is made of
pub record Told (f : List ℕ) (limits : ℕ) (is : Alphabet) (gs : Gaps) (h : ℕ) (o : Search) (w : List ℕ) (x : WithCheck)
    (r : Verification) : Type 0 where
  pub status_is : r.status ≡ status_m o.found r.reasons
  pub cases : r.cases ≡ o.cases
  pub total_steps : r.total_steps ≡ o.steps
  pub depth : r.depth ≡ limit_m f limits 8
  pub horizon : r.horizon ≡ h
  pub max_cases : r.max_cases ≡ limit_m f limits 12
  pub max_steps_per_case : r.max_steps_per_case ≡ limit_m f limits 4
  pub alphabet : r.alphabet ≡ is.count
  pub inputs : r.inputs ≡ is.words
  pub gaps : r.gaps ≡ gs.count
  pub seconds : r.seconds ≡ gs.seconds
  pub shortest : r.shortest ≡ o.shortest
  pub events : r.events ≡ x.events
  pub words : r.words ≡ x.words
  pub written : r.written ≡ x.written
  pub check : r.check ≡ x.check
  pub reasons : o.reasons ≤ verdict_reasons → (HasText f → Clean f o.reasons w) →
      Holds f (insert_all (listed f o.reasons w) []) r.reasons r.told

-- ---- the witness

-- no witness
unfoldable pub without : WithCheck
without = record { events = 0; words = replicate 20 0; written = 0; check = check.no_check 0 }
