-- The words for a code and a certainty are those of the definitions.
use mathlib.Core.Path.{◌≡◌, refl}
use Rattle.texts.specs.Texts.{Text}
use Rattle.lint_spec.specs.Findings.{
  Problem,
  unreachable_conditions,
  trigger_condition_mismatch,
  delayed_write,
  unreachable_branch,
  high_fanout,
  trigger_cycle,
  freshness_assumption,
  missing_safety_guard,
  opposing_writes,
  unsupported_note,
  code_name,
  certainty,
}
use Rattle.lint_spec.specs.Words.{code_number, certainty_number}
use Rattle.lint_words.specs.Numbers.{problem_of, certainty_of}

codes_agree : (x t : Text) (p : Problem) → code_name (problem_of x t (code_number p)) ≡ code_name p
unfolding code_name problem_of code_number
codes_agree x t unreachable_conditions = refl
codes_agree x t trigger_condition_mismatch = refl
codes_agree x t delayed_write = refl
codes_agree x t unreachable_branch = refl
codes_agree x t high_fanout = refl
codes_agree x t trigger_cycle = refl
codes_agree x t (freshness_assumption y) = refl
codes_agree x t (missing_safety_guard y) = refl
codes_agree x t (opposing_writes y) = refl
codes_agree x t (unsupported_note u) = refl

certainties_agree : (p : Problem) → certainty_of (certainty_number p) ≡ certainty p
unfolding certainty_of certainty_number certainty
certainties_agree unreachable_conditions = refl
certainties_agree trigger_condition_mismatch = refl
certainties_agree delayed_write = refl
certainties_agree unreachable_branch = refl
certainties_agree high_fanout = refl
certainties_agree trigger_cycle = refl
certainties_agree (freshness_assumption y) = refl
certainties_agree (missing_safety_guard y) = refl
certainties_agree (opposing_writes y) = refl
certainties_agree (unsupported_note u) = refl
