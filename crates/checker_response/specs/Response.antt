-- What a truth at a record does to an invariant's reading: why a record fails it, and the waiting of a response. It goes as
-- checker's Judge does.
use Rattle.std.specs.Prelude.{ℕ, ◌+◌, Bool, true, false, ◌&&◌, ◌||◌, Option, Some, None, is_some, ltb, leb, if◌then◌else◌}
use Rattle.engine_evaluate.specs.declared.Truth.{Truth}
use Rattle.engine_evaluate.specs.declared.Truth.TheVariants.{Yes, No, Unknown}
use Rattle.checker_response.specs.declared.Failure.{Failure}
use Rattle.checker_response.specs.declared.Failure.TheVariants.{DeadlineMissed}
use Rattle.checker_response.specs.declared.Memory.{Memory}
use Rattle.checker_response.specs.declared.Shown.{Shown}
use Rattle.checker_response.specs.declared.Seen.{Seen}

unfoldable pub yes_m : Truth → Bool
yes_m Yes = true
yes_m No = false
yes_m Unknown = false

unfoldable pub no_m : Truth → Bool
no_m Yes = false
no_m No = true
no_m Unknown = false

unfoldable pub unknown_m : Truth → Bool
unknown_m Yes = false
unknown_m No = false
unknown_m Unknown = true

-- a failure, if there is one and the test holds
unfoldable pub fails_m : Bool → Option Failure → Option Failure
fails_m b e = if b then e else None

unfoldable pub failed_m : Option Failure → Bool
failed_m e = is_some e

unfoldable pub or_else_m : Option Failure → Option Failure → Option Failure
or_else_m a b = if failed_m a then a else b

-- ---- a response

-- the deadline, if it waits, has passed
unfoldable pub overdue_m : (now : ℕ) → Option ℕ → Bool
overdue_m now None = false
overdue_m now (Some d) = ltb d now

-- a deadline that has passed is missed if the goal did not hold before the record
unfoldable pub missed_m : (now : ℕ) → (earlier : Truth) → Option ℕ → Option Failure
missed_m now g None = None
missed_m now g (Some d) = fails_m (ltb d now && no_m g) (Some (DeadlineMissed d))

-- a deadline that has passed is dropped
unfoldable pub kept_m : (now : ℕ) → Option ℕ → Option ℕ
kept_m now w = if overdue_m now w then None else w

unfoldable pub started_m : (deadline : ℕ) → Option ℕ → Option ℕ
started_m d None = Some d
started_m d (Some e) = Some e

-- if `when` rises and nothing waits, a wait begins
unfoldable pub begun_m : (now within : ℕ) → (cause : Truth) → (held : Bool) → Option ℕ → Option ℕ
begun_m now within cause held w = if held then w else if yes_m cause then started_m (now + within) w else w

-- what waits after a record; the goal ends it
unfoldable pub waits_m : (now : ℕ) → Seen → (held : Bool) → Option ℕ → Option ℕ
waits_m now s held w = if yes_m s.goal then None else begun_m now s.within s.cause held (kept_m now w)

-- at the horizon what still waits is missed, if its deadline is reached
unfoldable pub at_end_m : (now : ℕ) → (goal : Truth) → Option ℕ → Option Failure
at_end_m now g None = None
at_end_m now g (Some d) = fails_m (leb d now && no_m g) (Some (DeadlineMissed d))

unfoldable pub beyond_m : (now : ℕ) → Option ℕ → Bool
beyond_m now None = false
beyond_m now (Some d) = ltb now d

-- by what the predicates say: a failure at the end is told before one that came before
unfoldable pub failure_m : Seen → (now : ℕ) → (end : Bool) → (old new : Option ℕ) → Option Failure
failure_m s now end old new =
    or_else_m (if end then at_end_m now s.goal new else None) (missed_m now s.earlier old)

unfoldable pub memory_m : Seen → (now : ℕ) → (end : Bool) → Memory → (new : Option ℕ) → Memory
memory_m s now end m new = record {
  wait = new;
  held = yes_m s.cause;
  unknown = m.unknown || unknown_m s.cause || unknown_m s.goal;
  unclear = m.unclear || overdue_m now m.wait && unknown_m s.earlier;
  beyond = m.beyond || end && beyond_m now new;
}

unfoldable pub responded_m : Seen → (now : ℕ) → (end : Bool) → Memory → Shown
responded_m s now end m =
    let new = waits_m now s m.held m.wait in
    record { failure = failure_m s now end m.wait new; memory = memory_m s now end m new }
