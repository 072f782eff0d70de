-- What `check` answers, by the definitions of crate `checker_spec`: each number of the answer, and each word of the lent
-- areas.
use Rattle.std.specs.Prelude.{ℕ, ◌≡◌, List, [], ◌∷◌, ◌++◌, length}
use Rattle.layout.specs.Sizes.{violation_numbers}
use Rattle.texts.specs.Texts.{Text}
use Rattle.areas.specs.Areas.{area}
use Rattle.model_spec.specs.Answer.{Answer, answer, refused}
use Rattle.model_spec.specs.Rewrite.{place_of}
use Rattle.reasons.specs.Lists.{Reported}
use Rattle.engine_spec.specs.Memory.{Lent, entries, lent_after}
use Rattle.engine_spec.specs.Words.{source_words, texts_in, words_in, entry_words}
use Rattle.engine_entry.specs.Contract as engine
use Rattle.checker_spec.specs.Check as check
use Rattle.checker_spec.specs.Judge as judge
use Rattle.checker_result.specs.declared.Status.{Status}
use Rattle.checker_result.specs.declared.Status.TheVariants as status
use Rattle.checker_result.specs.declared.CheckResult.{CheckResult}
use Rattle.checker_result.specs.Result.{no_check}

-- the status by its name in the scope
abbrev pub status_as : check.Status → Status
status_as check.Status.unknown = status.Unknown
status_as check.Status.violation = status.Violation
status_as check.Status.incomplete = status.Incomplete
status_as check.no_violation_in_trace = status.NoViolationInTrace

-- a violation's failure as a number, and its deadline
abbrev pub failure_words : judge.Failure → List ℕ
failure_words judge.prohibited_state = 1 ∷ 0 ∷ []
failure_words judge.guard_violated = 2 ∷ 0 ∷ []
failure_words judge.forbidden_transition = 3 ∷ 0 ∷ []
failure_words (judge.deadline_missed d) = 4 ∷ d ∷ []

-- eight numbers: the identifier's place among the texts, the second, the record's index, the failure and its deadline; 1
-- with the source's line and column, or zeros
unfoldable pub violation_words : (texts : List Text) → check.Violation → List ℕ
violation_words ts v =
    (place_of v.invariant ts ∷ v.at ∷ v.index ∷ []) ++ (failure_words v.failure ++ source_words v.source)

-- The answer says what the definition's check says; each reason can be read, and zeros stand behind the last. Which of two
-- reasons with the same rendering stands there is left free.
pub record Shows (f : List ℕ) (r : CheckResult) (c : check.Check) : Type 0 where
  pub status_is : r.status ≡ status_as c.status
  pub violations : r.violations ≡ length c.violations
  pub violated : r.violated ≡ area (violation_words (texts_in f)) violation_numbers c.violations
  pub unknown : Reported f c.unknown r.unknown r.unknowns
  pub incomplete : Reported f c.incomplete r.incomplete r.incompletes
  pub simulation : engine.Shows f r.simulation c.simulation

abbrev pub Says : (file : List ℕ) → CheckResult → Answer check.Check → Type 0
Says f r (answer c) = Shows f r c
Says f r (refused n) = r ≡ no_check n

-- the lent areas after `check`
unfoldable pub check_memory : (file : List ℕ) → Lent → Lent
check_memory f l = lent_after (words_in f) (λ (c : check.Check). c.simulation.trace)
    (check.check (entries entry_words l) f) l

-- the entry `check`: its answer, and each word of the areas afterwards
pub record Checks (f : List ℕ) (r : CheckResult) (before after : Lent) : Type 0 where
  pub says : Says f r (check.check (entries entry_words before) f)
  pub memory : after ≡ check_memory f before
