-- Questions about a status.
use Rattle.std.specs.Prelude.{ℕ, Bool, true, false}
use Rattle.checker_result.specs.declared.Status.{Status}
use Rattle.checker_result.specs.declared.Status.TheVariants as status

-- the refusal's number, or 0
abbrev pub refusal_m : Status → ℕ
refusal_m (status.Refused n) = n
refusal_m status.Unknown = 0
refusal_m status.Violation = 0
refusal_m status.Incomplete = 0
refusal_m status.NoViolationInTrace = 0

abbrev pub is_refused_m : Status → Bool
is_refused_m (status.Refused n) = true
is_refused_m status.Unknown = false
is_refused_m status.Violation = false
is_refused_m status.Incomplete = false
is_refused_m status.NoViolationInTrace = false

abbrev pub is_violation_m : Status → Bool
is_violation_m (status.Refused n) = false
is_violation_m status.Unknown = false
is_violation_m status.Violation = true
is_violation_m status.Incomplete = false
is_violation_m status.NoViolationInTrace = false
