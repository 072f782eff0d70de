-- What a record shows by values that agree, a record that is passed over, and that a record without a change shows nothing
-- new after one that was read.
use Rattle.std.specs.Prelude.{if◌then◌else◌, Option, Some, None}
use Prim.Native.Nat.{ℕ, ◌+◌}
use mathlib.Core.Path.{◌≡◌, refl, sym}
use mathlib.Core.Bool.{Bool, true, false, ◌||◌, false≢true}
use mathlib.Core.List.{List}
use lib.Dec.{eqb}
use lib.ListN.{get_or}
use borrow.Author.Tests.{ne_eqb}
use Rattle.texts.proofs.Bool.{and_false, or_again, or_false}
use Rattle.model_walk.proofs.Found.{Case, is_true, is_false, case}
use Rattle.records.specs.declared.Write.{Write}
use Rattle.records.specs.declared.Record.{Record}
use Rattle.engine_fields.specs.Fields.{two}
use Rattle.engine_state.specs.Machine.{later}
use Rattle.engine_evaluate.specs.Evaluate.{evaluate_m, all_m}
use Rattle.engine_evaluate.specs.declared.Truth.{Truth}
use Rattle.engine_evaluate.specs.declared.Truth.TheVariants.{Yes, No, Unknown}
use Rattle.checker_response.specs.declared.Failure.{Failure}
use Rattle.checker_response.specs.declared.Failure.TheVariants.{ProhibitedState}
use Rattle.checker_response.specs.declared.Memory.{Memory}
use Rattle.checker_response.specs.declared.Seen.{Seen}
use Rattle.checker_response.specs.declared.Shown.{Shown}
use Rattle.checker_response.specs.Response.{
  yes_m,
  unknown_m,
  fails_m,
  failed_m,
  or_else_m,
  overdue_m,
  missed_m,
  kept_m,
  started_m,
  begun_m,
  waits_m,
  at_end_m,
  beyond_m,
  failure_m,
  memory_m,
  responded_m,
}
use Rattle.checker_judge.specs.Judging.{
  unsure_m,
  never_m,
  writes_m,
  about_m,
  guard_m,
  passes_m,
  transition_m,
  goal_at,
  seen_m,
  read_m,
}
use Rattle.checker_judge.specs.Names.{has_m, named_in, touches_m, pending_m}
use Rattle.checker_judge.specs.Turns.{Agree, nothing_new, Fresh}
use Rattle.checker_judge.proofs.Named.{
  never_covers,
  guard_covers,
  guard_has,
  transition_has,
  goal_covered,
  cause_covered,
  evaluate_same,
  all_same,
  apart,
}

-- the record, as if it changed nothing
abbrev pub unchanged : Record → Record
unchanged r = record {
  second = r.second;
  kind = r.kind;
  detail = r.detail;
  number = r.number;
  rule = r.rule;
  source = r.source;
  change = None;
}

-- ---- a response to which nothing happens

abbrev no_failure : Option Failure
no_failure = None

module _ (s : Seen) (now : ℕ) (end : Bool) (m : Memory) (idle : m.wait ≡ None) (held : m.held ≡ yes_m s.cause)
    (known : m.unknown || unknown_m s.cause || unknown_m s.goal ≡ m.unknown) where
  none_begun : waits_m now s m.held m.wait ≡ None
  unfolding waits_m begun_m kept_m overdue_m started_m
  none_begun = rw (idle, held) (by (yes_m s.goal) (yes_m s.cause))
    where
      by : (goal cause : Bool) → (if goal then None else if cause then None else if cause then Some (now + s.within)
          else None)
          ≡ None
      by true cause = refl
      by false true = refl
      by false false = refl

  none_failed : failure_m s now end m.wait None ≡ None
  unfolding failure_m or_else_m at_end_m missed_m failed_m
  none_failed = rw idle (by end)
    where
      by : (b : Bool) → (if failed_m (if b then no_failure else no_failure) then (if b then no_failure else no_failure)
          else no_failure)
          ≡ no_failure
      by true = refl
      by false = refl

  remembered : memory_m s now end m None ≡ m
  unfolding memory_m overdue_m beyond_m
  remembered = rw (known, idle, and_false end, or_false m.unclear, or_false m.beyond, ← held) refl

  pub nothing_happens : responded_m s now end m ≡ nothing_new m
  unfolding responded_m
  nothing_happens = rw (none_begun, none_failed, remembered) refl

-- ---- any invariant

module _ (f x : List ℕ) (at : ℕ) where
  -- its kind, by the tests of read_m
  data Kind : Type 0 where
    never : eqb (get_or f at 0) 0 ≡ true → Kind
    guard : eqb (get_or f at 0) 0 ≡ false → eqb (get_or f at 0) 1 ≡ true → Kind
    transition : eqb (get_or f at 0) 0 ≡ false → eqb (get_or f at 0) 1 ≡ false → eqb (get_or f at 0) 2 ≡ true → Kind
    response : eqb (get_or f at 0) 0 ≡ false → eqb (get_or f at 0) 1 ≡ false → eqb (get_or f at 0) 2 ≡ false → Kind

  kind_of : Kind
  kind_of = first (case (eqb (get_or f at 0) 0))
    where
      third : eqb (get_or f at 0) 0 ≡ false → eqb (get_or f at 0) 1 ≡ false → Case (eqb (get_or f at 0) 2) → Kind
      third a b (is_true c) = transition a b c
      third a b (is_false c) = response a b c

      second : eqb (get_or f at 0) 0 ≡ false → Case (eqb (get_or f at 0) 1) → Kind
      second a (is_true b) = guard a b
      second a (is_false b) = third a b (case (eqb (get_or f at 0) 2))

      first : Case (eqb (get_or f at 0) 0) → Kind
      first (is_true a) = never a
      first (is_false a) = second a (case (eqb (get_or f at 0) 1))

  -- values that agree are read alike
  pub read_same : (bs cs ps qs : List ℕ) (r : Record) (m : Memory) → Agree x (named_in f at) bs cs
      → Agree x (named_in f at) ps qs → read_m f x at bs ps r m ≡ read_m f x at cs qs r m
  unfolding read_m never_m guard_m seen_m
  read_same bs cs ps qs r m h g = by kind_of
    where
      by : Kind → read_m f x at bs ps r m ≡ read_m f x at cs qs r m
      by (never a) = rw (a, all_same f x (named_in f at) ps qs g (later at 3) (never_covers f at a))
      by (guard a b) = rw (a, b, all_same f x (named_in f at) bs cs h (later at 7) (guard_covers f at a b))
      by (transition a b c) = rw (a, b, c)
      by (response a b c) =
          rw (
            a,
            b,
            c,
            evaluate_same f x (named_in f at) ps qs g (later at 3) (cause_covered f at a b c),
            evaluate_same f x (named_in f at) ps qs g (goal_at f at) (goal_covered f at a b c),
            evaluate_same f x (named_in f at) bs cs h (goal_at f at) (goal_covered f at a b c),
          )

  module _ (has : has_m (named_in f at) (two f (at + 3)) ≡ true) where
    not_written : (d : Option Write) → touches_m (named_in f at) d ≡ false → writes_m f at d ≡ false
    unfolding writes_m touches_m
    not_written None k = refl
    not_written (Some d) k =
        rw (ne_eqb d.entity (two f (at + 3)) (apart (named_in f at) d.entity (two f (at + 3)) k has))

    not_passed : (d : Option Write) → touches_m (named_in f at) d ≡ false → passes_m f at d ≡ false
    unfolding passes_m touches_m
    not_passed None k = refl
    not_passed (Some d) k =
        rw (ne_eqb d.entity (two f (at + 3)) (apart (named_in f at) d.entity (two f (at + 3)) k has))

  -- a write of an entity that isn't named is read as no change
  pub read_unchanged : (bs ps : List ℕ) (r : Record) (m : Memory) → touches_m (named_in f at) r.change ≡ false
      → read_m f x at bs ps r m ≡ read_m f x at bs ps (unchanged r) m
  unfolding read_m never_m guard_m about_m transition_m touches_m
  read_unchanged bs ps r m h = by kind_of
    where
      by : Kind → read_m f x at bs ps r m ≡ read_m f x at bs ps (unchanged r) m
      by (never a) = rw a
      by (guard a b) =
          rw (a, b, not_written (guard_has f at a b) r.change h, not_written (guard_has f at a b) None refl)
      by (transition a b c) =
          rw (
            a,
            b,
            c,
            not_passed (transition_has f at a b c) r.change h,
            not_passed (transition_has f at a b c) None refl,
          )
      by (response a b c) = rw (a, b, c)

  -- a never that didn't fail, read once more
  never_again : (ps : List ℕ) (m : Memory) → failed_m (never_m f x at ps m).failure ≡ false
      → never_m f x at ps (never_m f x at ps m).memory ≡ nothing_new (never_m f x at ps m).memory
  unfolding never_m unsure_m fails_m failed_m yes_m unknown_m
  never_again ps m = by (all_m f x ps 0 (later at 3)).truth
    where
      by : (t : Truth) → failed_m (fails_m (yes_m t) (Some ProhibitedState)) ≡ false
          → ◌≡◌ {A = Shown} (record {
            failure = fails_m (yes_m t) (Some ProhibitedState);
            memory =
                unsure_m (unknown_m t) (unsure_m (unknown_m t) m);
          })
          (nothing_new (unsure_m (unknown_m t) m))
      by Yes h = absurd (false≢true (sym h))
      by No h = rw (or_again m.unknown false)
      by Unknown h = rw (or_again m.unknown true)

  -- a response after which nothing is awaited, read once more
  response_again : (bs ps : List ℕ) (now later-on : ℕ) (end last : Bool) (m : Memory)
      → pending_m (responded_m (seen_m f x at bs ps) now end m).memory.wait ≡ false
      → responded_m (seen_m f x at ps ps) later-on last (responded_m (seen_m f x at bs ps) now end m).memory
      ≡ nothing_new (responded_m (seen_m f x at bs ps) now end m).memory
  unfolding responded_m memory_m seen_m
  response_again bs ps now later-on end last m h =
      nothing_happens (seen_m f x at ps ps) later-on last (responded_m (seen_m f x at bs ps) now end m).memory
      (idle _ h) refl
      (or_twice m.unknown (unknown_m (evaluate_m f x ps 0 (later at 3))) (unknown_m (evaluate_m f x ps 0 (goal_at f at))))
    where
      idle : (w : Option ℕ) → pending_m w ≡ false → w ≡ None
      idle None g = refl
      idle (Some d) g = absurd (false≢true (sym (unfold pending_m in g)))

      or_twice : (a b c : Bool) → (a || b || c) || b || c ≡ a || b || c
      or_twice true b c = refl
      or_twice false true c = refl
      or_twice false false true = refl
      or_twice false false false = refl

  -- a record that was read and didn't fail leaves nothing new to be read
  pub fresh_after : (bs ps : List ℕ) (r : Record) (m : Memory) → failed_m (read_m f x at bs ps r m).failure ≡ false
      → Fresh f x at ps (read_m f x at bs ps r m).memory
  unfolding read_m
  fresh_after bs ps r m h = record { still = λ idle q same. by kind_of idle q same }
    where
      by : Kind → pending_m (read_m f x at bs ps r m).memory.wait ≡ false → (q : Record) → q.change ≡ None
          → read_m f x at ps ps q (read_m f x at bs ps r m).memory ≡ nothing_new (read_m f x at bs ps r m).memory
      by (never a) idle q same = rw a (never_again ps m (rw a at h))
      by (guard a b) idle q same = rw (a, b) (unfold guard_m about_m writes_m in (rw (same, and_false (eqb q.kind 2))))
      by (transition a b c) idle q same = rw (a, b, c) (unfold transition_m passes_m fails_m in (rw same))
      by (response a b c) idle q same =
          rw (a, b, c) (response_again bs ps r.second q.second (eqb r.kind 9) (eqb q.kind 9) m
          (rw (a, b, c) at idle))
