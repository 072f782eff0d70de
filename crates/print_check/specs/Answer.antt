-- The first line of an answer of `check`.
use Rattle.texts.specs.Texts.{Text}
use Rattle.checker_spec.specs.Check as check
use Rattle.checker_result.specs.declared.Status.{Status}
use Rattle.checker_result.specs.declared.Status.TheVariants.{Refused, Unknown, Violation, Incomplete, NoViolationInTrace}
use Rattle.show.specs.Lines.{refused_line}
use Rattle.check_lines.specs.Lines.{status_line}

-- after a refusal it is the only one
unfoldable pub first_line : Status → Text
first_line (Refused n) = refused_line n
first_line Unknown = status_line check.Status.unknown
first_line Violation = status_line check.Status.violation
first_line Incomplete = status_line check.Status.incomplete
first_line NoViolationInTrace = status_line check.no_violation_in_trace
