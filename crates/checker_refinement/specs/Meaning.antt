-- What a reading on places says, in the terms of checker's Judge.
use Rattle.std.specs.Prelude.{ℕ}
use Rattle.std.proofs.Math.Option.{Option, none, some}
use Rattle.checker_spec.specs.Judge as judge
use Rattle.std.specs.Prelude as core
use Rattle.std.specs.Prelude.{Some, None}
use Rattle.checker_response.specs.declared.Failure.{Failure}
use Rattle.checker_response.specs.declared.Failure.TheVariants.{
  ProhibitedState,
  GuardViolated,
  ForbiddenTransition,
  DeadlineMissed,
}
use Rattle.checker_response.specs.declared.Memory.{Memory}
use Rattle.checker_response.specs.declared.Shown.{Shown}
use Rattle.checker_judge.specs.declared.Reading.{Reading}
use Rattle.engine_refinement.specs.Meaning.{where_of}

abbrev pub failure_of : core.Option Failure → Option judge.Failure
failure_of None = none
failure_of (Some ProhibitedState) = some judge.prohibited_state
failure_of (Some GuardViolated) = some judge.guard_violated
failure_of (Some ForbiddenTransition) = some judge.forbidden_transition
failure_of (Some (DeadlineMissed d)) = some (judge.deadline_missed d)

abbrev pub wait_of : core.Option ℕ → Option ℕ
wait_of None = none
wait_of (Some d) = some d

unfoldable pub memory_of : Memory → judge.Memory
memory_of m = record {
  deadline = wait_of m.wait;
  was_when = m.held;
  unknown_predicate = m.unknown;
  unknown_at_deadline = m.unclear;
  beyond_horizon = m.beyond;
}

unfoldable pub shown_of : Shown → judge.Shown
shown_of s = record { failure = failure_of s.failure; memory = memory_of s.memory }

-- the failing record, if there is a failure
unfoldable pub failing_of : Reading → Option judge.Failure → Option judge.Failing
failing_of r none = none
failing_of r (some e) = some (record { index = r.index; at = r.second; source = where_of r.source; failure = e })

unfoldable pub reading_of : Reading → judge.Reading
reading_of r = record { failing = failing_of r (failure_of r.failure); memory = memory_of r.memory }
