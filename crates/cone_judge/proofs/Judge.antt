-- Reading the records for one invariant: those outside the cone change no answer (`judge_view`). For never, guard and
-- transition such a record shows nothing new; a late response is found at the next record at the latest, with one deadline.
use Rattle.std.specs.Prelude.{if◌then◌else◌}
use Prim.Native.Nat.{ℕ, suc, ◌+◌, ◌≤◌}
use mathlib.Core.Bool.{Bool, true, false, not, ◌&&◌, ◌||◌, true≢false, false≢true}
use mathlib.Core.List.{List, [], ◌∷◌, ◌++◌}
use mathlib.Core.Option.{Option, none, some}
use mathlib.Core.Path.{◌≡◌, refl, sym, ap, ◌∙◌, subst}
use native.Mathlib.Omega.{arith}
use lib.Dec.{ltb}
use Rattle.texts.proofs.Bool.{or_false}
use Rattle.texts.specs.Lists.{absent, present_and, all, keep, flat}
use Rattle.texts.specs.Texts.{Text, text, eq_t}
use Rattle.model_spec.specs.Model.{Predicate, Invariant, never, guard, transition, response, midnight}
use Rattle.engine_spec.specs.Cells.{Cell, put}
use Rattle.engine_spec.specs.Kleene.{Truth, Yes, No, Unknown, is_yes, is_no, is_unknown}
use Rattle.engine_spec.specs.Records.{Kind, kind_name, Change, Trace}
use Rattle.lint_spec.specs.Touches.{predicate_reads}
use Rattle.checker_spec.specs.Judge.{
  Failure,
  prohibited_state,
  deadline_missed,
  Memory,
  nothing_yet,
  Shown,
  stated,
  stated_all,
  after,
  is_action,
  is_horizon,
  writes,
  passes,
  fails_if,
  overdue,
  missed,
  waits_after,
  missed_at_end,
  beyond,
  or_else,
  read_response,
  read,
  Reading,
  reading,
  read_all,
}
use Rattle.cone_spec.specs.Cone.{names}
use Rattle.cone_judge.specs.Reading.{told, About, late, about_failing, about}
use Rattle.cone_engine.proofs.Base.{
  Case,
  is_true,
  is_false,
  case,
  and_l,
  and_r,
  or_no,
  or_no',
  eq_t_eq,
  none_some,
  keep_in,
  keep_out,
  keep_nil,
  Every,
  leb_le,
  le-leb,
  all_l,
  all_r,
}
use Rattle.cone_engine.proofs.View
use Rattle.cone_engine.proofs.View.{boundary}
use Rattle.cone_engine.proofs.TimeOrder.{Rising, headed, fair}

-- the last record is a boundary
unfoldable pub ends : List Trace → Bool
ends [] = true
ends (t ∷ []) = boundary t.kind
ends (t ∷ u ∷ l) = ends (u ∷ l)

ends_tail : (t : Trace) (l : List Trace) → ends (t ∷ l) ≡ true → ends l ≡ true
unfolding ends
ends_tail t [] h = refl
ends_tail t (u ∷ l) h = h

-- records follow, the last of them a boundary
unfoldable pub ends_on : List Trace → Bool
ends_on [] = false
ends_on (t ∷ l) = ends (t ∷ l)

ends_next : (t : Trace) (l : List Trace) → boundary t.kind ≡ false → ends (t ∷ l) ≡ true → ends_on l ≡ true
unfolding ends ends_on
ends_next t [] b h = absurd (false≢true (sym b ∙ h))
ends_next t (u ∷ l) b h = h

pub ends_end : (l : List Trace) (t : Trace) → boundary t.kind ≡ true → ends (l ++ t ∷ []) ≡ true
unfolding ends
ends_end [] t h = h
ends_end (x ∷ []) t h = h
ends_end (x ∷ y ∷ l) t h = ends_end (y ∷ l) t h

horizon_kind : (k : Kind) → boundary k ≡ false → eq_t (kind_name k) (text "horizon") ≡ false
unfolding boundary kind_name eq_t
horizon_kind Kind.initial h = refl
horizon_kind Kind.external h = refl
horizon_kind Kind.action h = refl
horizon_kind Kind.stale h = refl
horizon_kind Kind.restart h = refl
horizon_kind Kind.cancel h = refl
horizon_kind Kind.single_running h = refl
horizon_kind Kind.max_reached h = refl
horizon_kind Kind.choose h = refl
horizon_kind Kind.horizon h = h
horizon_kind (Kind.trigger v) h = refl
horizon_kind (Kind.condition v) h = refl
horizon_kind (Kind.start n) h = refl
horizon_kind (Kind.queued n) h = refl
horizon_kind (Kind.complete n) h = refl
horizon_kind (Kind.delay n) h = refl
horizon_kind (Kind.wait n) h = refl
horizon_kind (Kind.timeout b) h = refl
horizon_kind (Kind.unknown r) h = refl

no_horizon : (t : Trace) → boundary t.kind ≡ false → is_horizon t ≡ false
unfolding is_horizon
no_horizon t h = horizon_kind t.kind h

-- the horizon shows no change
horizon_still : (t : Trace) (l : List Cell) → fair t ≡ true → is_horizon t ≡ true → after t l ≡ l
unfolding after fair absent
horizon_still t l f h = go (case (boundary t.kind))
  where
    by : (o : Option Change) → absent o ≡ true → elim o [ none ↦ l | some c ↦ put c.entity c.after 0 l ] ≡ l
    by none q = refl
    by (some c) q = absurd (false≢true q)

    go : Case (boundary t.kind) → elim t.change [ none ↦ l | some c ↦ put c.entity c.after 0 l ] ≡ l
    go (is_true b) = by t.change (rw b at f)
    go (is_false b) = absurd (true≢false (sym h ∙ no_horizon t b))

-- the truths of a response, in place of its predicates
unfoldable pub shown_response : (w g g₀ : Truth) → (within : ℕ) → Trace → Memory → Shown
shown_response w g g₀ within t m =
    let waits = waits_after t.at within w g m.was_when m.deadline in
    record {
      failure = or_else (if is_horizon t then missed_at_end t.at g waits else none) (missed t.at g₀ m.deadline);
      memory = record {
        deadline = waits;
        was_when = is_yes w;
        unknown_predicate = m.unknown_predicate || is_unknown w || is_unknown g;
        unknown_at_deadline = m.unknown_at_deadline || overdue t.at m.deadline && is_unknown g₀;
        beyond_horizon = m.beyond_horizon || is_horizon t && beyond t.at waits;
      };
    }

abbrev quiet : Memory → Shown
quiet m = record { failure = none; memory = m }

or_true : (b : Bool) → b || true ≡ true
or_true true = refl
or_true false = refl

or_same : (u a : Bool) → (u || a) || a ≡ u || a
or_same true a = refl
or_same false true = refl
or_same false false = refl

or_again : (u a b : Bool) → (((u || a) || b) || a) || b ≡ (u || a) || b
or_again true a b = refl
or_again false true b = refl
or_again false false true = refl
or_again false false false = refl

yes_none : (x : Option ℕ) → none ≡ (if is_yes Yes then none else x)
unfolding is_yes
yes_none x = refl

record Settled (w g : Truth) (m : Memory) : Type 0 where
  s1 : m.was_when ≡ is_yes w
  s2 : (if is_yes g then none else m.deadline) ≡ m.deadline
  s3 : (m.unknown_predicate || is_unknown w) || is_unknown g ≡ m.unknown_predicate

settled_after : (w g g₀ : Truth) (n : ℕ) (t : Trace) (m : Memory) → Settled w g (shown_response w g g₀ n t m).memory
unfolding shown_response waits_after
settled_after w g g₀ n t m =
    record { s1 = refl; s2 = by _ g; s3 = or_again m.unknown_predicate (is_unknown w) (is_unknown g) }
  where
    by : (o : Option ℕ) (g : Truth)
        → (if is_yes g then none else (if is_yes g then none else o)) ≡ (if is_yes g then none else o)
    by o Yes = unfold is_yes in refl
    by o No = unfold is_yes in refl
    by o Unknown = unfold is_yes in refl

waits_idle : (now n : ℕ) (w g : Truth) (was : Bool) (o : Option ℕ) → overdue now o ≡ false → was ≡ is_yes w
    → (if is_yes g then none else o) ≡ o → waits_after now n w g was o ≡ o
unfolding waits_after
waits_idle now n w g was o p q s = rw (p, q) (by w)
  where
    by : (w : Truth) → (if is_yes g then
        none else (if is_yes w && not (is_yes w) && absent o then some (now + n) else o)) ≡ o
    by Yes = unfold is_yes in (unfold is_yes in s)
    by No = unfold is_yes in (unfold is_yes in s)
    by Unknown = unfold is_yes in (unfold is_yes in s)

missed_idle : (now : ℕ) (g : Truth) (o : Option ℕ) → overdue now o ≡ false → missed now g o ≡ none
unfolding missed overdue present_and fails_if
missed_idle now g none p = refl
missed_idle now g (some d) p = rw p

response_idle : (w g : Truth) (n : ℕ) (t : Trace) (m : Memory) → Settled w g m → is_horizon t ≡ false
    → overdue t.at m.deadline ≡ false → shown_response w g g n t m ≡ quiet m
unfolding shown_response or_else
response_idle w g n t m s h o =
    rw (h, o, missed_idle t.at g m.deadline o)
    (λ j. record {
      failure = none;
      memory = record {
        deadline = waits_idle t.at n w g m.was_when m.deadline o s.s1 s.s2 j;
        was_when = (sym s.s1) j;
        unknown_predicate = s.s3 j;
        unknown_at_deadline = or_false m.unknown_at_deadline j;
        beyond_horizon = or_false m.beyond_horizon j;
      };
    })

module _ (in_e in_a : Text → Bool) where
  abbrev keep_c : List Cell → List Cell
  keep_c = keep (View.cone_cell in_e in_a)

  abbrev kept : Trace → Bool
  kept = View.cone_trace in_e in_a

  after_keep : (t : Trace) (l : List Cell) → keep_c (after t l) ≡ after t (keep_c l)
  unfolding after
  after_keep t l = go t.change
    where
      go : (o : Option Change) → keep_c (elim o [ none ↦ l | some c ↦ put c.entity c.after 0 l ]) ≡ elim o
          [ none ↦ keep_c l | some c ↦ put c.entity c.after 0 (keep_c l) ]
      go none = refl
      go (some c) = View.put_keep in_e in_a c.entity c.after 0 l

  kept_kind : (t : Trace) → kept t ≡ false → boundary t.kind ≡ false
  unfolding View.cone_trace
  kept_kind t h = or_no (boundary t.kind) _ h

  kept_change : (t : Trace) → kept t ≡ false → present_and (λ c. in_e c.entity) t.change ≡ false
  unfolding View.cone_trace
  kept_change t h = or_no' (boundary t.kind) _ h

  after_out : (t : Trace) → kept t ≡ false → (l : List Cell) → keep_c (after t l) ≡ keep_c l
  unfolding after
  after_out t h l = go t.change (kept_change t h)
    where
      go : (o : Option Change) → present_and (λ c. in_e c.entity) o ≡ false
          → keep_c (elim o [ none ↦ l | some c ↦ put c.entity c.after 0 l ]) ≡ keep_c l
      go none q = refl
      go (some c) q = View.put_out in_e in_a c.entity c.after 0 (unfold present_and in q) l

  -- the same record read in two states that agree in the cone
  read_same : (i : Invariant) → all in_e (names i) ≡ true → (b b' p p' : List Cell) → keep_c b ≡ keep_c b'
      → keep_c p ≡ keep_c p' → (t : Trace) (m : Memory) → read i b p t m ≡ read i b' p' t m
  unfolding read read_response names all
  read_same (never id ps) h b b' p p' x y t m = rw (View.same_truths in_e in_a p p' y midnight ps h)
  read_same (guard id e v ps) h b b' p p' x y t m = rw (View.same_truths in_e in_a b b' x midnight ps (and_r (in_e e) _ h))
  read_same (transition id e f v) h b b' p p' x y t m = refl
  read_same (response id w g n) h b b' p p' x y t m =
      rw (
        View.same_truth in_e in_a p p' y midnight w
            (all_l in_e (predicate_reads w) (predicate_reads g) h),
        View.same_truth in_e in_a p p' y midnight g
            (all_r in_e (predicate_reads w) (predicate_reads g) h),
        View.same_truth in_e in_a b b' x midnight g
            (all_r in_e (predicate_reads w) (predicate_reads g) h),
      )

  module _ (i : Invariant) where
    -- what follows a record, by what it shows
    unfoldable next : ℕ → Trace → List Cell → List Trace → Shown → Reading
    next k t present ts shown = elim shown.failure [
      | some f ↦ record {
        failing = some (record { index = k; at = t.at; source = t.source; failure = f });
        memory = shown.memory;
      }
      | none ↦ reading i (k + 1) present shown.memory ts
    ]

    step : (k : ℕ) (c : List Cell) (m : Memory) (t : Trace) (ts : List Trace)
        → reading i k c m (t ∷ ts) ≡ next k t (after t c) ts (read i c (after t c) t m)
    unfolding reading next
    step k c m t ts = refl

    quiet_next : (k : ℕ) (t : Trace) (c : List Cell) (ts : List Trace) (m : Memory)
        → next k t c ts (quiet m) ≡ reading i (k + 1) c m ts
    unfolding next
    quiet_next k t c ts m = refl

    next_same : (k k' : ℕ) (t : Trace) (c c' : List Cell) (ts ts' : List Trace) (s : Shown)
        → (s.failure ≡ none → about i (reading i (k + 1) c s.memory ts) ≡ about i
        (reading i (k' + 1) c' s.memory ts'))
        → about i (next k t c ts s) ≡ about i (next k' t c' ts' s)
    unfolding next
    next_same k k' t c c' ts ts' s ih = go s.failure ih
      where
        go : (o : Option Failure) → (o ≡ none
            → about i (reading i (k + 1) c s.memory ts) ≡ about i (reading i (k' + 1) c' s.memory ts'))
            → about i (elim o [
              | some f ↦ record {
                failing =
                    some (record { index = k; at = t.at; source = t.source; failure = f });
                memory = s.memory;
              }
              | none ↦ reading i (k + 1) c s.memory ts
            ])
            ≡ about i (elim o [
              | some f ↦ record {
                failing =
                    some (record { index = k'; at = t.at; source = t.source; failure = f });
                memory = s.memory;
              }
              | none ↦ reading i (k' + 1) c' s.memory ts'
            ])
        go none q = q refl
        go (some f) q = unfold about in refl

    module _ (h : all in_e (names i) ≡ true) where
      -- a record inside
      inside : (k k' : ℕ) (c : List Cell) (m : Memory) (t : Trace) (l : List Trace) → kept t ≡ true
          → ((read i c (after t c) t m).failure ≡ none
          → about i (reading i (k + 1) (after t c) (read i c (after t c) t m).memory l) ≡ about i
          (reading i (k' + 1) (keep_c (after t c)) (read i c (after t c) t m).memory (keep kept l)))
          → about i (reading i k c m (t ∷ l)) ≡ about i (reading i k' (keep_c c) m (keep kept (t ∷ l)))
      inside k k' c m t l q ih =
          ap (about i) (step k c m t l)
          ∙ next_same k k' t (after t c) (keep_c (after t c)) l (keep kept l) (read i c (after t c) t m) ih
          ∙ ap (about i) (side ∙ sym (step k' (keep_c c) m t (keep kept l))
          ∙ ap (reading i k' (keep_c c) m) (sym (keep_in kept t l q)))
        where
          again : (l : List Cell) → keep_c l ≡ keep_c (keep_c l)
          again l = sym (Rattle.cone_engine.proofs.Base.keep_again (View.cone_cell in_e in_a) l)

          side : next k' t (keep_c (after t c)) (keep kept l) (read i c (after t c) t m) ≡ next k' t
              (after t (keep_c c)) (keep kept l) (read i (keep_c c) (after t (keep_c c)) t m)
          side = λ j. next k' t (after_keep t c j) (keep kept l)
              ((read_same i h c (keep_c c) (after t c) (after t (keep_c c)) (again c)
              (again (after t c) ∙ ap keep_c (after_keep t c)) t m) j)

      -- a record outside that shows nothing
      outside : (k k' : ℕ) (c : List Cell) (m m' : Memory) (t : Trace) (l : List Trace) → kept t ≡ false
          → read i c (after t c) t m ≡ quiet m'
          → about i (reading i (k + 1) (after t c) m' l) ≡ about i (reading i k' (keep_c (after t c)) m' (keep kept l))
          → about i (reading i k c m (t ∷ l)) ≡ about i (reading i k' (keep_c c) m' (keep kept (t ∷ l)))
      outside k k' c m m' t l q e ih =
          ap (about i) (step k c m t l ∙ ap (next k t (after t c) l) e ∙ quiet_next k t (after t c) l m') ∙ ih
          ∙ ap (λ (d : List Cell). about i (reading i k' d m' (keep kept l))) (after_out t q c)
          ∙ ap (λ (r : List Trace). about i (reading i k' (keep_c c) m' r)) (sym (keep_out kept t l q))

      -- an invariant for which a record outside shows nothing, once the state before it was read
      module _ (S : List Cell → Memory → Type 0)
          (still : (c : List Cell) (m : Memory) (t : Trace) → kept t ≡ false → S c m → read i c (after t c) t m ≡ quiet m)
          (settles : (b p : List Cell) (t : Trace) (m : Memory) → (read i b p t m).failure ≡ none
          → S p (read i b p t m).memory)
          (moves : (c c' : List Cell) (m : Memory) → keep_c c ≡ keep_c c' → S c m → S c' m) where
        plain_view : (l : List Trace) (k k' : ℕ) (c : List Cell) (m : Memory) → S c m
            → about i (reading i k c m l) ≡ about i (reading i k' (keep_c c) m (keep kept l))
        plain_view [] k k' c m s = rw (keep_nil kept) (unfold reading in refl)
        plain_view (t ∷ l) k k' c m s = go (case (kept t)) (plain_view l)
          where
            IH : Type 0
            IH = (k k' : ℕ) (c : List Cell) (m : Memory) → S c m
                → about i (reading i k c m l) ≡ about i (reading i k' (keep_c c) m (keep kept l))

            go : Case (kept t) → IH → about i (reading i k c m (t ∷ l)) ≡ about i
                (reading i k' (keep_c c) m (keep kept (t ∷ l)))
            go (is_true q) ih = inside k k' c m t l q (λ e. ih (k + 1) (k' + 1) (after t c) _ (settles c (after t c) t m e))
            go (is_false q) ih = outside k k' c m m t l q (still c m t q s)
                (ih (k + 1) k' (after t c) m (moves c (after t c) m (sym (after_out t q c)) s))

        plain_all : (c : List Cell) (l : List Trace) → headed l ≡ true
            → about i (read_all i c l) ≡ about i (read_all i (keep_c c) (keep kept l))
        unfolding read_all headed
        plain_all c [] b = absurd (false≢true b)
        plain_all c (t ∷ l) b = inside 0 0 c nothing_yet t l (unfold View.cone_trace in (rw b))
            (λ e. plain_view l (0 + 1) (0 + 1) (after t c) _ (settles c (after t c) t nothing_yet e))

  -- ---- never

  abbrev NeverSeen : List Predicate → List Cell → Memory → Type 0
  NeverSeen ps c m = (is_yes (stated_all ps c) ≡ false)
      × (m.unknown_predicate || is_unknown (stated_all ps c) ≡ m.unknown_predicate)

  never_view : (id : Text) (ps : List Predicate) → all in_e (names (never id ps)) ≡ true
      → (c : List Cell) (l : List Trace) → headed l ≡ true
      → about (never id ps) (read_all (never id ps) c l) ≡ about (never id ps)
      (read_all (never id ps) (keep_c c) (keep kept l))
  never_view id ps h c l b = plain_all (never id ps) h (NeverSeen ps) still settles moves c l b
    where
      ps_in : all in_e (flat predicate_reads ps) ≡ true
      ps_in = unfold names in h

      still : (c : List Cell) (m : Memory) (t : Trace) → kept t ≡ false → NeverSeen ps c m
          → read (never id ps) c (after t c) t m ≡ quiet m
      still c m t q s = unfold read fails_if in
          (rw (View.same_truths in_e in_a (after t c) c (after_out t q c) midnight ps ps_in, s.0)
          (λ j. record {
            failure = none;
            memory = record {
              deadline = m.deadline;
              was_when = m.was_when;
              unknown_predicate =
                  s.1 j;
              unknown_at_deadline = m.unknown_at_deadline;
              beyond_horizon = m.beyond_horizon;
            };
          }))

      settles : (b p : List Cell) (t : Trace) (m : Memory) → (read (never id ps) b p t m).failure ≡ none
          → NeverSeen ps p (read (never id ps) b p t m).memory
      settles b p t m e = unfold read in (
        no (is_yes (stated_all ps p)) (unfold read in e),
        or_same m.unknown_predicate
            (is_unknown (stated_all ps p)),
      )
        where
          no : (y : Bool) → fails_if y prohibited_state ≡ none → y ≡ false
          no true f = absurd (none_some {a = prohibited_state} (sym (unfold fails_if in f)))
          no false f = refl

      moves : (c c' : List Cell) (m : Memory) → keep_c c ≡ keep_c c' → NeverSeen ps c m → NeverSeen ps c' m
      moves c c' m e s = rw (← (View.same_truths in_e in_a c c' e midnight ps ps_in)) s

  -- ---- guard and transition

  and_false : (b : Bool) → b && false ≡ false
  and_false true = refl
  and_false false = refl

  guard_still : (id x v : Text) (ps : List Predicate) (c : List Cell) (m : Memory) (t : Trace)
      → present_and (writes x v) t.change ≡ false → read (guard id x v ps) c (after t c) t m ≡ quiet m
  unfolding read fails_if
  guard_still id x v ps c m t q =
      rw (q, and_false (is_action t))
      (λ j. record {
        failure = none;
        memory = record {
          deadline = m.deadline;
          was_when = m.was_when;
          unknown_predicate =
              or_false m.unknown_predicate j;
          unknown_at_deadline = m.unknown_at_deadline;
          beyond_horizon =
              m.beyond_horizon;
        };
      })

  guard_view : (id x v : Text) (ps : List Predicate) → all in_e (names (guard id x v ps)) ≡ true
      → (c : List Cell) (l : List Trace) → headed l ≡ true
      → about (guard id x v ps) (read_all (guard id x v ps) c l) ≡ about (guard id x v ps)
      (read_all (guard id x v ps) (keep_c c) (keep kept l))
  guard_view id x v ps h c l b = plain_all (guard id x v ps) h (λ c m. Unit {0}) still (λ b p t m e. tt)
      (λ c c' m e s. tt) c l b
    where
      x_in : in_e x ≡ true
      x_in = and_l (in_e x) (all in_e (flat predicate_reads ps)) (unfold names all in h)

      none_writes : (o : Option Change) → present_and (λ c. in_e c.entity) o ≡ false → present_and (writes x v) o ≡ false
      none_writes none q = unfold present_and in refl
      none_writes (some d) q = unfold present_and writes in (go (case (eq_t d.entity x)))
        where
          go : Case (eq_t d.entity x) → eq_t d.entity x && eq_t d.after v ≡ false
          go (is_true a) = absurd (true≢false (sym x_in ∙ sym (ap in_e (eq_t_eq d.entity x a))
              ∙ (unfold present_and in q)))
          go (is_false a) = rw a

      still : (c : List Cell) (m : Memory) (t : Trace) → kept t ≡ false → Unit {0}
          → read (guard id x v ps) c (after t c) t m ≡ quiet m
      still c m t q s = guard_still id x v ps c m t (none_writes t.change (kept_change t q))

  transition_still : (id x from to : Text) (c : List Cell) (m : Memory) (t : Trace)
      → present_and (passes x from to) t.change ≡ false → read (transition id x from to) c (after t c) t m ≡ quiet m
  unfolding read fails_if
  transition_still id x from to c m t q = rw q

  transition_view : (id x from to : Text) → all in_e (names (transition id x from to)) ≡ true
      → (c : List Cell) (l : List Trace) → headed l ≡ true
      → about (transition id x from to) (read_all (transition id x from to) c l) ≡ about (transition id x from to)
      (read_all (transition id x from to) (keep_c c) (keep kept l))
  transition_view id x from to h c l b =
      plain_all (transition id x from to) h (λ c m. Unit {0}) still (λ b p t m e. tt) (λ c c' m e s. tt) c l b
    where
      x_in : in_e x ≡ true
      x_in = and_l (in_e x) true (unfold names all in h)

      none_passes : (o : Option Change) → present_and (λ c. in_e c.entity) o ≡ false
          → present_and (passes x from to) o ≡ false
      none_passes none q = unfold present_and in refl
      none_passes (some d) q = unfold present_and passes in (go (case (eq_t d.entity x)))
        where
          go : Case (eq_t d.entity x) → eq_t d.entity x && eq_t d.before from && eq_t d.after to ≡ false
          go (is_true a) = absurd (true≢false (sym x_in ∙ sym (ap in_e (eq_t_eq d.entity x a))
              ∙ (unfold present_and in q)))
          go (is_false a) = rw a

      still : (c : List Cell) (m : Memory) (t : Trace) → kept t ≡ false → Unit {0}
          → read (transition id x from to) c (after t c) t m ≡ quiet m
      still c m t q s = transition_still id x from to c m t (none_passes t.change (kept_change t q))

  -- ---- response

  unfoldable passed : ℕ → Trace → Bool
  passed d t = ltb d t.at

  rising_passed : (d a : ℕ) (l : List Trace) (h : ℕ) → suc d ≤ a → Rising a l h → Every (passed d) l
  unfolding passed
  rising_passed d a [] h z k = tt
  rising_passed d a (t ∷ l) h z k =
      let y : suc d ≤ t.at = omega (arith, k.0) in
      (le-leb (suc d) t.at y, rising_passed d t.at l h y k.1)

  waits_dropped : (now n : ℕ) (w g : Truth) (was : Bool) (o : Option ℕ) → was ≡ is_yes w → overdue now o ≡ true
      → waits_after now n w g was o ≡ none
  unfolding waits_after absent
  waits_dropped now n w g was o p q = rw (p, q) (by w g)
    where
      by : (w g : Truth) → (if is_yes g then
          none else (if is_yes w && not (is_yes w) && true then some (now + n) else none)) ≡ none
      by Yes Yes = unfold is_yes in refl
      by Yes No = unfold is_yes in refl
      by Yes Unknown = unfold is_yes in refl
      by No Yes = unfold is_yes in refl
      by No No = unfold is_yes in refl
      by No Unknown = unfold is_yes in refl
      by Unknown Yes = unfold is_yes in refl
      by Unknown No = unfold is_yes in refl
      by Unknown Unknown = unfold is_yes in refl

  is_overdue : (now d : ℕ) → ltb d now ≡ true → overdue now (some d) ≡ true
  unfolding overdue present_and
  is_overdue now d h = h

  missed_no : (now d : ℕ) (o : Option ℕ) → o ≡ some d → ltb d now ≡ true → missed now No o ≡ some (deadline_missed d)
  unfolding missed fails_if is_no
  missed_no now d o p q = rw (p, q)

  lag_no : (n d : ℕ) (t : Trace) (m : Memory) (w w₀ g : Truth) → Settled w₀ No m → m.deadline ≡ some d
      → ltb d t.at ≡ true → (is_horizon t ≡ true → (w ≡ w₀) × (g ≡ No))
      → (shown_response w g No n t m).failure ≡ some (deadline_missed d)
  unfolding shown_response
  lag_no n d t m w w₀ g s e b f = go (case (is_horizon t))
    where
      last : missed t.at No m.deadline ≡ some (deadline_missed d)
      last = missed_no t.at d m.deadline e b

      go : Case (is_horizon t)
          → or_else (if is_horizon t then
          missed_at_end t.at g (waits_after t.at n w g m.was_when m.deadline) else none)
          (missed t.at No m.deadline) ≡ some (deadline_missed d)
      go (is_false a) = rw (a, last) (unfold or_else in refl)
      go (is_true a) =
          rw (
            a,
            last,
            waits_dropped t.at n w g m.was_when m.deadline (s.s1 ∙ sym (ap is_yes (f a).0))
                (ap (overdue t.at) e ∙ is_overdue t.at d b),
          ) (unfold missed_at_end or_else in refl)

  -- the memory once a deadline has passed in doubt
  abbrev doubted : Memory → Memory
  doubted m = record {
    deadline = none;
    was_when = m.was_when;
    unknown_predicate =
        m.unknown_predicate;
    unknown_at_deadline = true;
    beyond_horizon = m.beyond_horizon;
  }

  missed_unknown : (now : ℕ) (o : Option ℕ) → missed now Unknown o ≡ none
  unfolding missed fails_if is_no
  missed_unknown now none = refl
  missed_unknown now (some d) = rw (and_false (ltb d now))

  waits_none : (now n : ℕ) (w g : Truth) (was : Bool) (o : Option ℕ) → overdue now o ≡ true
      → waits_after now n w g was o ≡ waits_after now n w g was none
  unfolding waits_after overdue present_and
  waits_none now n w g was o q = rw q

  lag_unknown : (n : ℕ) (t : Trace) (m : Memory) (w g : Truth) → overdue t.at m.deadline ≡ true
      → shown_response w g Unknown n t m ≡ shown_response w g Unknown n t (doubted m)
  unfolding shown_response is_unknown
  lag_unknown n t m w g o =
      rw (
        missed_unknown t.at m.deadline,
        missed_unknown t.at none,
        waits_none t.at n w g m.was_when
            m.deadline o,
        o,
      )
      (λ j. record {
        failure = or_else (if is_horizon t then missed_at_end t.at g (waits_after t.at n w g m.was_when none)
            else none) none;
        memory = record {
          deadline = waits_after t.at n w g m.was_when none;
          was_when = is_yes w;
          unknown_predicate = m.unknown_predicate || is_unknown w || is_unknown g;
          unknown_at_deadline = or_true m.unknown_at_deadline j;
          beyond_horizon = m.beyond_horizon || is_horizon t && beyond t.at
              (waits_after t.at n w g m.was_when none);
        };
      })

  module _ (id : Text) (p q : Predicate) (n : ℕ) (hp : all in_e (predicate_reads p) ≡ true)
      (hq : all in_e (predicate_reads q) ≡ true) where
    abbrev R : Invariant
    R = response id p q n

    names_in : all in_e (names R) ≡ true
    unfolding names
    names_in = Rattle.cone_engine.proofs.Base.all_i in_e (predicate_reads p) (predicate_reads q) hp hq

    is_shown : (b c : List Cell) (t : Trace) (m : Memory)
        → read R b c t m ≡ shown_response (stated p c) (stated q c) (stated q b) n t m
    unfolding read read_response shown_response
    is_shown b c t m = refl

    fails_late : (k : ℕ) (t : Trace) (c : List Cell) (ts : List Trace) (s : Shown) (d : ℕ)
        → s.failure ≡ some (deadline_missed d) → about R (next R k t c ts s) ≡ late d
    unfolding next about about_failing told
    fails_late k t c ts s d e = go s.failure e
      where
        A : Option Failure → About
        A o = about R (elim o [
          | some f ↦ record {
            failing =
                some (record { index = k; at = t.at; source = t.source; failure = f });
            memory = s.memory;
          }
          | none ↦ reading R (k + 1) c s.memory ts
        ])

        go : (o : Option Failure) → o ≡ some (deadline_missed d) → A o ≡ late d
        go o z = ap A z

    read_fails : (k : ℕ) (c : List Cell) (m : Memory) (t : Trace) (l : List Trace) (d : ℕ)
        → (shown_response (stated p (after t c)) (stated q (after t c)) (stated q c) n t m).failure ≡ some
        (deadline_missed d)
        → about R (reading R k c m (t ∷ l)) ≡ late d
    read_fails k c m t l d e = ap (about R) (step R k c m t l)
        ∙ fails_late k t (after t c) l (read R c (after t c) t m) d
        (ap (λ (s : Shown). s.failure) (is_shown c (after t c) t m) ∙ e)

    -- a deadline missed outside is found at the next record inside
    lag_no_list : (l : List Trace) (k d : ℕ) (c : List Cell) (m : Memory) → ends_on l ≡ true → Every fair l
        → Every (passed d) l
        → Settled (stated p c) No m → stated q c ≡ No → m.deadline ≡ some d
        → about R (reading R k c m (keep kept l)) ≡ late d
    unfolding passed ends_on
    lag_no_list [] k d c m z f a s g e = absurd (false≢true z)
    lag_no_list (t ∷ l) k d c m z f a s g e = go (case (kept t)) (lag_no_list l)
      where
        go : Case (kept t)
            → ((k d : ℕ) (c : List Cell) (m : Memory) → ends_on l ≡ true → Every fair l → Every (passed d) l
            → Settled (stated p c) No m → stated q c ≡ No → m.deadline ≡ some d
            → about R (reading R k c m (keep kept l)) ≡ late d)
            → about R (reading R k c m (keep kept (t ∷ l))) ≡ late d
        go (is_true i) ih = rw (keep_in kept t l i)
            (read_fails k c m t (keep kept l) d
            (ap (λ (x : Truth). (shown_response (stated p (after t c)) (stated q (after t c)) x n t m).failure) g
            ∙ lag_no n d t m (stated p (after t c)) (stated p c) (stated q (after t c)) s e a.0
            (λ y. (ap (stated p) (horizon_still t c f.0 y), ap (stated q) (horizon_still t c f.0 y) ∙ g))))
        go (is_false o) ih = rw (keep_out kept t l o) (ih k d c m (ends_next t l (kept_kind t o) z) f.1 a.1 s g e)

    lag_unknown_list : (l : List Trace) (k d : ℕ) (c : List Cell) (m : Memory) → ends_on l ≡ true → Every (passed d) l
        → stated q c ≡ Unknown → m.deadline ≡ some d
        → about R (reading R k c m (keep kept l)) ≡ about R (reading R k c (doubted m) (keep kept l))
    unfolding passed ends_on
    lag_unknown_list [] k d c m z a g e = absurd (false≢true z)
    lag_unknown_list (t ∷ l) k d c m z a g e = go (case (kept t)) (lag_unknown_list l)
      where
        same : read R c (after t c) t m ≡ read R c (after t c) t (doubted m)
        same = is_shown c (after t c) t m
            ∙ ap (λ (x : Truth). shown_response (stated p (after t c)) (stated q (after t c)) x n t m) g
            ∙ lag_unknown n t m (stated p (after t c)) (stated q (after t c))
            (ap (overdue t.at) e ∙ is_overdue t.at d a.0)
            ∙ ap (λ (x : Truth). shown_response (stated p (after t c)) (stated q (after t c)) x n t (doubted m)) (sym g)
            ∙ sym (is_shown c (after t c) t (doubted m))

        go : Case (kept t)
            → ((k d : ℕ) (c : List Cell) (m : Memory) → ends_on l ≡ true → Every (passed d) l → stated q c ≡ Unknown
            → m.deadline ≡ some d → about R (reading R k c m (keep kept l)) ≡ about R
            (reading R k c (doubted m) (keep kept l)))
            → about R (reading R k c m (keep kept (t ∷ l))) ≡ about R (reading R k c (doubted m) (keep kept (t ∷ l)))
        go (is_true i) ih = rw (keep_in kept t l i)
            (ap (about R) (step R k c m t (keep kept l) ∙ ap (next R k t (after t c) (keep kept l)) same
            ∙ sym (step R k c (doubted m) t (keep kept l))))
        go (is_false o) ih = rw (keep_out kept t l o) (ih k d c m (ends_next t l (kept_kind t o) z) a.1 g e)

    same_p : (c c' : List Cell) → keep_c c ≡ keep_c c' → stated p c ≡ stated p c'
    same_p c c' e = View.same_truth in_e in_a c c' e midnight p hp

    same_q : (c c' : List Cell) → keep_c c ≡ keep_c c' → stated q c ≡ stated q c'
    same_q c c' e = View.same_truth in_e in_a c c' e midnight q hq

    settled_to : (w w' g g' : Truth) (m : Memory) → w ≡ w' → g ≡ g' → Settled w g m → Settled w' g' m
    settled_to w w' g g' m x y s = rw (← x, ← y) s

    again : (c : List Cell) → keep_c c ≡ keep_c (keep_c c)
    again c = sym (Rattle.cone_engine.proofs.Base.keep_again (View.cone_cell in_e in_a) c)

    response_list : (l : List Trace) (h a : ℕ) (k k' : ℕ) (c : List Cell) (m : Memory) → Rising a l h → ends l ≡ true
        → Every fair l → Settled (stated p c) (stated q c) m
        → about R (reading R k c m l) ≡ about R (reading R k' (keep_c c) m (keep kept l))
    response_list [] h a k k' c m u z f s = rw (keep_nil kept) (unfold reading in refl)
    response_list (t ∷ l) h a k k' c m u z f s = go (case (kept t)) (response_list l h t.at)
      where
        IH : Type 0
        IH = (k k' : ℕ) (c : List Cell) (m : Memory) → Rising t.at l h → ends l ≡ true → Every fair l
            → Settled (stated p c) (stated q c) m
            → about R (reading R k c m l) ≡ about R (reading R k' (keep_c c) m (keep kept l))

        -- the state after a record outside
        p_same : kept t ≡ false → stated p (after t c) ≡ stated p c
        p_same o = same_p (after t c) c (after_out t o c)

        q_same : kept t ≡ false → stated q (after t c) ≡ stated q c
        q_same o = same_q (after t c) c (after_out t o c)

        shown : kept t ≡ false → read R c (after t c) t m ≡ shown_response (stated p c) (stated q c)
            (stated q c) n t m
        shown o = is_shown c (after t c) t m ∙ (λ j. shown_response (p_same o j) (q_same o j) (stated q c) n t m)

        on : kept t ≡ false → IH → (m' : Memory) → read R c (after t c) t m ≡ quiet m'
            → Settled (stated p c) (stated q c) m'
            → about R (reading R k c m (t ∷ l)) ≡ about R (reading R k' (keep_c c) m' (keep kept (t ∷ l)))
        on o ih m' e s' = outside R names_in k k' c m m' t l o e
            (ih (k + 1) k' (after t c) m' u.1 (ends_tail t l z) f.1
            (settled_to (stated p c) (stated p (after t c)) (stated q c) (stated q (after t c)) m'
            (sym (p_same o)) (sym (q_same o)) s'))

        due : kept t ≡ false → IH → (d : ℕ) → m.deadline ≡ some d → ltb d t.at ≡ true → (g : Truth)
            → stated q c ≡ g → about R (reading R k c m (t ∷ l)) ≡ about R (reading R k' (keep_c c) m (keep kept (t ∷ l)))
        due o ih d e b Yes g = absurd (none_some
            (yes_none m.deadline ∙ ap (λ (x : Truth). if is_yes x then none else m.deadline) (sym g) ∙ s.s2 ∙ e))
        due o ih d e b No g =
            read_fails k c m t l d
            ((λ j. (shown_response (p_same o j) (q_same o j) (stated q c) n t m).failure)
            ∙ ap (λ (x : Truth). (shown_response (stated p c) x x n t m).failure) g
            ∙ lag_no n d t m (stated p c) (stated p c) No
            (settled_to (stated p c) (stated p c) (stated q c) No m refl g s) e b (λ y. (refl, refl)))
            ∙ sym (rw (keep_out kept t l o)
            (lag_no_list l k' d (keep_c c) m (ends_next t l (kept_kind t o) z) f.1
            (rising_passed d t.at l h (leb_le (suc d) t.at b) u.1)
            (settled_to (stated p c) (stated p (keep_c c)) (stated q c) No m (same_p c (keep_c c) (again c)) g s)
            (sym (same_q c (keep_c c) (again c)) ∙ g) e))
        due o ih d e b Unknown g =
            on o ih (doubted m) quiet_doubt doubt_settled
            ∙ sym (rw (keep_out kept t l o)
            (lag_unknown_list l k' d (keep_c c) m (ends_next t l (kept_kind t o) z)
            (rising_passed d t.at l h (leb_le (suc d) t.at b) u.1) (sym (same_q c (keep_c c) (again c)) ∙ g) e))
          where
            doubt_settled : Settled (stated p c) (stated q c) (doubted m)
            doubt_settled = record {
              s1 = s.s1;
              s2 = ap (λ (x : Truth). if is_yes x then none else none) g
                  ∙ (unfold is_yes in refl);
              s3 = s.s3;
            }

            quiet_doubt : read R c (after t c) t m ≡ quiet (doubted m)
            quiet_doubt =
                shown o ∙ ap (λ (x : Truth). shown_response (stated p c) x x n t m) g
                ∙ lag_unknown n t m (stated p c) Unknown (ap (overdue t.at) e ∙ is_overdue t.at d b)
                ∙ response_idle (stated p c) Unknown n t (doubted m)
                (settled_to (stated p c) (stated p c) (stated q c) Unknown (doubted m) refl g doubt_settled)
                (no_horizon t (kept_kind t o)) (unfold overdue present_and in refl)

        due_at : (x : Option ℕ) → overdue t.at x ≡ true → (d : ℕ) × ((x ≡ some d) × (ltb d t.at ≡ true))
        due_at none b = absurd (false≢true (unfold overdue present_and in b))
        due_at (some d) b = (d, (refl, unfold overdue present_and in b))

        go : Case (kept t) → IH → about R (reading R k c m (t ∷ l)) ≡ about R (reading R k' (keep_c c) m (keep kept (t ∷ l)))
        go (is_true i) ih = inside R names_in k k' c m t l i
            (λ e. ih (k + 1) (k' + 1) (after t c) _ u.1 (ends_tail t l z) f.1
            (subst (λ (x : Shown). Settled (stated p (after t c)) (stated q (after t c)) x.memory)
            (sym (is_shown c (after t c) t m))
            (settled_after (stated p (after t c)) (stated q (after t c)) (stated q c) n t m)))
        go (is_false o) ih = by (case (overdue t.at m.deadline))
          where
            by : Case (overdue t.at m.deadline)
                → about R (reading R k c m (t ∷ l)) ≡ about R (reading R k' (keep_c c) m (keep kept (t ∷ l)))
            by (is_true b) = let d : (d : ℕ) × ((m.deadline ≡ some d) × (ltb d t.at ≡ true)) =
                due_at m.deadline b in due o ih d.0 d.1.0 d.1.1 (stated q c) refl
            by (is_false b) = on o ih m (shown o
                ∙ response_idle (stated p c) (stated q c) n t m s (no_horizon t (kept_kind t o)) b) s

    response_view : (c : List Cell) (l : List Trace) (h : ℕ) → headed l ≡ true → Rising 0 l h → ends l ≡ true
        → Every fair l → about R (read_all R c l) ≡ about R (read_all R (keep_c c) (keep kept l))
    unfolding read_all headed
    response_view c [] h b u z f = absurd (false≢true b)
    response_view c (t ∷ l) h b u z f = inside R names_in 0 0 c nothing_yet t l (unfold View.cone_trace in (rw b))
        (λ e. response_list l h t.at (0 + 1) (0 + 1) (after t c) _ u.1 (ends_tail t l z) f.1
        (subst (λ (x : Shown). Settled (stated p (after t c)) (stated q (after t c)) x.memory)
        (sym (is_shown c (after t c) t nothing_yet))
        (settled_after (stated p (after t c)) (stated q (after t c)) (stated q c) n t nothing_yet)))

  -- ---- any invariant
  pub judge_view : (i : Invariant) → all in_e (names i) ≡ true → (c : List Cell) (l : List Trace) (h : ℕ)
      → headed l ≡ true → Rising 0 l h → ends l ≡ true → Every fair l
      → about i (read_all i c l) ≡ about i (read_all i (keep (View.cone_cell in_e in_a) c) (keep (View.cone_trace in_e in_a) l))
  judge_view (never id ps) e c l h b u z f = never_view id ps e c l b
  judge_view (guard id x v ps) e c l h b u z f = guard_view id x v ps e c l b
  judge_view (transition id x from to) e c l h b u z f = transition_view id x from to e c l b
  judge_view (response id p q n) e c l h b u z f =
      response_view id p q n (all_l in_e (predicate_reads p) (predicate_reads q) (unfold names in e))
      (all_r in_e (predicate_reads p) (predicate_reads q) (unfold names in e)) c l h b u z f
