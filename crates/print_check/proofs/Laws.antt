-- The first line of an answer.
use mathlib.Core.Path.{◌≡◌, refl}
use Prim.Native.Nat.{ℕ}
use Rattle.texts.specs.Texts.{text}
use Rattle.checker_spec.specs.Check as check
use Rattle.show.specs.Lines.{refused_line}
use Rattle.check_lines.specs.Lines.{status_line}
use Rattle.checker_result.specs.declared.Status.{Status}
use Rattle.checker_result.specs.declared.Status.TheVariants as status
use Rattle.checker_entry.specs.Contract.{status_as}
use Rattle.print_check.specs.Answer.{first_line}

module _ (s : Status) where
  pub refused : (n : ℕ) → s ≡ status.Refused n → refused_line n ≡ first_line s
  unfolding first_line
  refused n e = rw e

  pub unknown : s ≡ status.Unknown → text "status unknown\n" ≡ first_line s
  unfolding first_line status_line check.status_name
  unknown e = rw e

  pub violation : s ≡ status.Violation → text "status violation\n" ≡ first_line s
  unfolding first_line status_line check.status_name
  violation e = rw e

  pub incomplete : s ≡ status.Incomplete → text "status incomplete\n" ≡ first_line s
  unfolding first_line status_line check.status_name
  incomplete e = rw e

  pub no_violation : s ≡ status.NoViolationInTrace → text "status no_violation_in_trace\n" ≡ first_line s
  unfolding first_line status_line check.status_name
  no_violation e = rw e

-- of an answer that is no refusal: the definition's status
pub first_is : (s : check.Status) → first_line (status_as s) ≡ status_line s
unfolding first_line
first_is check.Status.unknown = refl
first_is check.Status.violation = refl
first_is check.Status.incomplete = refl
first_is check.no_violation_in_trace = refl
