-- What a record shows of a response, by the truth of its predicates: on places as in Judge.
use Rattle.std.specs.Prelude.{if◌then◌else◌}
use mathlib.Core.Path.{◌≡◌, refl, ap, ◌∙◌}
use mathlib.Core.Bool.{Bool, true, false, ◌&&◌, ◌||◌, not}
use mathlib.Core.Option.{Option, none, some}
use Prim.Native.Nat.{ℕ, ◌+◌}
use lib.Dec.{ltb, leb}
use Rattle.texts.specs.Lists.{absent, present_and}
use Rattle.model_walk.proofs.Found.{Case, is_true, is_false, case}
use Rattle.engine_spec.specs.Kleene.{is_yes, is_no, is_unknown}
use Rattle.engine_spec.specs.Kleene as kleene
use Rattle.engine_evaluate.specs.declared.Truth.{Truth}
use Rattle.engine_evaluate.specs.declared.Truth.TheVariants.{Yes, No, Unknown}
use Rattle.engine_refinement.specs.Meaning.{truth_of}
use Rattle.checker_spec.specs.Judge.{fails_if, overdue, missed, waits_after, missed_at_end, beyond, or_else}
use Rattle.checker_spec.specs.Judge as judge
use Rattle.std.specs.Prelude as core
use Rattle.std.specs.Prelude.{Some, None}
use Rattle.checker_response.specs.Response.{
  yes_m,
  no_m,
  unknown_m,
  fails_m,
  failed_m,
  or_else_m,
  overdue_m,
  missed_m,
  kept_m,
  started_m,
  begun_m,
  waits_m,
  at_end_m,
  beyond_m,
  failure_m,
  memory_m,
  responded_m,
}
use Rattle.checker_response.specs.declared.Failure.{Failure}
use Rattle.checker_response.specs.declared.Failure.TheVariants.{
  ProhibitedState,
  GuardViolated,
  ForbiddenTransition,
  DeadlineMissed,
}
use Rattle.checker_response.specs.declared.Memory.{Memory}
use Rattle.checker_response.specs.declared.Seen.{Seen}
use Rattle.checker_refinement.specs.Meaning.{failure_of, wait_of, memory_of, shown_of}

-- ---- truths and failures

pub yes_is : (t : Truth) → yes_m t ≡ is_yes (truth_of t)
unfolding yes_m is_yes
yes_is Yes = refl
yes_is No = refl
yes_is Unknown = refl

pub no_is : (t : Truth) → no_m t ≡ is_no (truth_of t)
unfolding no_m is_no
no_is Yes = refl
no_is No = refl
no_is Unknown = refl

pub unknown_is : (t : Truth) → unknown_m t ≡ is_unknown (truth_of t)
unfolding unknown_m is_unknown
unknown_is Yes = refl
unknown_is No = refl
unknown_is Unknown = refl

pub fails_is : (b : Bool) (e : core.Option Failure) (g : judge.Failure) → failure_of e ≡ some g
    → failure_of (fails_m b e) ≡ fails_if b g
unfolding fails_m fails_if
fails_is true e g h = h
fails_is false e g h = refl

or_else_is : (a b : core.Option Failure) → failure_of (or_else_m a b) ≡ or_else (failure_of a) (failure_of b)
unfolding or_else_m failed_m or_else
or_else_is None b = refl
or_else_is (Some ProhibitedState) b = refl
or_else_is (Some GuardViolated) b = refl
or_else_is (Some ForbiddenTransition) b = refl
or_else_is (Some (DeadlineMissed d)) b = refl

-- ---- deadlines

overdue_is : (now : ℕ) (w : core.Option ℕ) → overdue_m now w ≡ overdue now (wait_of w)
unfolding overdue_m overdue present_and
overdue_is now None = refl
overdue_is now (Some d) = refl

beyond_is : (now : ℕ) (w : core.Option ℕ) → beyond_m now w ≡ beyond now (wait_of w)
unfolding beyond_m beyond present_and
beyond_is now None = refl
beyond_is now (Some d) = refl

missed_is : (now : ℕ) (g : Truth) (w : core.Option ℕ) → failure_of (missed_m now g w) ≡ missed now (truth_of g) (wait_of w)
unfolding missed_m missed
missed_is now g None = refl
missed_is now g (Some d) =
    fails_is (ltb d now && no_m g) (Some (DeadlineMissed d)) _ refl
    ∙ ap (λ (b : Bool). fails_if (ltb d now && b) (judge.deadline_missed d)) (no_is g)

at_end_is : (now : ℕ) (g : Truth) (w : core.Option ℕ) → failure_of (at_end_m now g w) ≡ missed_at_end now (truth_of g) (wait_of w)
unfolding at_end_m missed_at_end
at_end_is now g None = refl
at_end_is now g (Some d) =
    fails_is (leb d now && no_m g) (Some (DeadlineMissed d)) _ refl
    ∙ ap (λ (b : Bool). fails_if (leb d now && b) (judge.deadline_missed d)) (no_is g)

-- ---- what waits after a record

kept_is : (now : ℕ) (w : core.Option ℕ) → wait_of (kept_m now w) ≡ (if overdue now (wait_of w) then none else wait_of w)
unfolding kept_m
kept_is now w = cases (case (overdue_m now w))
  where
    cases : Case (overdue_m now w) → wait_of (kept_m now w) ≡ (if overdue now (wait_of w) then none else wait_of w)
    cases (is_true b) = rw (← overdue_is now w, b)
    cases (is_false b) = rw (← overdue_is now w, b)

module _ (now within : ℕ) where
  abbrev begun : kleene.Truth → Bool → Option ℕ → Option ℕ
  begun t held k = if is_yes t && not held && absent k then some (now + within) else k

  begun_is : (t : Truth) (held : Bool) (w : core.Option ℕ) →
      wait_of (begun_m now within t held w) ≡ begun (truth_of t) held (wait_of w)
  unfolding begun_m yes_m started_m is_yes absent
  begun_is Yes true w = refl
  begun_is Yes false None = refl
  begun_is Yes false (Some d) = refl
  begun_is No true w = refl
  begun_is No false w = refl
  begun_is Unknown true w = refl
  begun_is Unknown false w = refl

waits_is : (now : ℕ) (s : Seen) (held : Bool) (w : core.Option ℕ) →
    wait_of (waits_m now s held w) ≡ waits_after now s.within (truth_of s.cause) (truth_of s.goal) held (wait_of w)
unfolding waits_m waits_after
waits_is now s held w = cases (case (yes_m s.goal))
  where
    goes : wait_of (begun_m now s.within s.cause held (kept_m now w))
        ≡ begun now s.within (truth_of s.cause) held (if overdue now (wait_of w) then none else wait_of w)
    goes =
        begun_is now s.within s.cause held (kept_m now w)
        ∙ ap (begun now s.within (truth_of s.cause) held) (kept_is now w)

    cases : Case (yes_m s.goal) →
        wait_of (waits_m now s held w) ≡ waits_after now s.within (truth_of s.cause) (truth_of s.goal) held
        (wait_of w)
    cases (is_true b) = rw (← yes_is s.goal, b)
    cases (is_false b) = rw (← yes_is s.goal, b) goes

-- ---- the record

-- Judge's `read_response`, over the truths of the predicates
abbrev pub told : (cause goal earlier : kleene.Truth) (within now : ℕ) (end : Bool) → judge.Memory → judge.Shown
told w g e within now end m =
    let waits = waits_after now within w g m.was_when m.deadline in
    record {
      failure = or_else (if end then missed_at_end now g waits else none) (missed now e m.deadline);
      memory = record {
        deadline = waits;
        was_when = is_yes w;
        unknown_predicate = m.unknown_predicate || is_unknown w || is_unknown g;
        unknown_at_deadline = m.unknown_at_deadline || overdue now m.deadline && is_unknown e;
        beyond_horizon = m.beyond_horizon || end && beyond now waits;
      };
    }

module _ (s : Seen) (now : ℕ) (end : Bool) (m : Memory) where
  new : core.Option ℕ
  new = waits_m now s m.held m.wait

  end_is : (b : Bool) → failure_of (if b then at_end_m now s.goal new else None)
      ≡ (if b then missed_at_end now (truth_of s.goal) (wait_of new) else none)
  end_is true = at_end_is now s.goal new
  end_is false = refl

  failure_is : failure_of (failure_m s now end m.wait new)
      ≡ or_else (if end then missed_at_end now (truth_of s.goal) (wait_of new) else none)
      (missed now (truth_of s.earlier) (wait_of m.wait))
  unfolding failure_m
  failure_is =
      or_else_is (if end then at_end_m now s.goal new else None) (missed_m now s.earlier m.wait)
      ∙ rw (end_is end, missed_is now s.earlier m.wait)

  pub responded_is : shown_of (responded_m s now end m)
      ≡ told (truth_of s.cause) (truth_of s.goal) (truth_of s.earlier) s.within now end (memory_of m)
  unfolding shown_of responded_m memory_m memory_of new
  responded_is =
      rw (
        ← waits_is now s m.held m.wait,
        ← failure_is,
        ← yes_is s.cause,
        ← unknown_is s.cause,
        ← unknown_is s.goal,
        ← overdue_is now m.wait,
        ← unknown_is s.earlier,
        ← beyond_is now new,
      )
