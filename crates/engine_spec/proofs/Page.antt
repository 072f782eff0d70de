-- Home Assistant's page on automation modes holds of the simulation of every accepted file, after every number of items of
-- work: specs/Page says what it states.
use Rattle.std.specs.Prelude.{if◌then◌else◌}
use Prim.Native.Nat.{ℕ, zero, suc, ◌+◌, ◌≤◌}
use mathlib.Core.Path.{◌≡◌, refl, sym, ap, ◌∙◌, subst}
use mathlib.Core.Bool.{Bool, true, false, not, ◌&&◌, ◌||◌, false≢true}
use mathlib.Core.List.{List, [], ◌∷◌, ◌++◌, append-nil, Memᴰ}
use mathlib.Core.Option.{Option, none, some}
use native.Mathlib.Omega.{arith}
use lib.Dec.{eqb}
use Rattle.texts.specs.Lists.{◌▸◌, absent, keep, find, tally, each, through}
use Rattle.texts.specs.Texts.{Text, text, eq_t}
use Rattle.model_spec.specs.Answer.{answer}
use Rattle.model_spec.specs.Model.{
  Source,
  Mode,
  queued,
  Trigger,
  Effect,
  toggle,
  delay,
  condition,
  choose,
  wait,
  Actions,
  done,
  act,
  Automation,
  Input,
  reload,
  Event,
  Model,
}
use Rattle.model_spec.specs.Validate.{accepted}
use Rattle.engine_spec.specs.Cells.{Cell, cell_of}
use Rattle.engine_spec.specs.Kleene.{Truth, Yes, No, Unknown}
use Rattle.engine_spec.specs.Truth.{evaluate, evaluate_all}
use Rattle.engine_spec.specs.Modes.{
  Decision,
  already_running,
  max_reached,
  start,
  stop_and_start,
  wait_in_line,
  decide,
}
use Rattle.engine_spec.specs.Reasons.{space_spent, steps_spent}
use Rattle.engine_spec.specs.Unsupported.{unsupported}
use Rattle.engine_spec.specs.Records.{Key, Waiting, Run, Work, Kind, Trace, Areas, Engine}
use Rattle.engine_spec.specs.Changes.{
  if_some,
  with_cells,
  add,
  append,
  with_runs,
  add_run,
  uncertain,
  with_queue,
  adds,
}
use Rattle.engine_spec.specs.Engine.{
  moment,
  same_run,
  of_rule,
  other_run,
  of_other_rule,
  queued_for,
  in_place,
  store,
  left,
  waits,
  released,
  fresh_run,
  awaits,
  woken,
  ◌then◌,
  select,
  at_once,
  next_step,
  log,
  log_rule,
  log_action,
  update,
  let_go,
  release,
  finish,
  wake,
  begin,
  carry_out,
  admit,
  offer,
  trigger,
  go_on_after,
  write,
  flip,
  tested,
  chosen,
  begin_wait,
  perform,
  go_on,
  step,
  resume,
  wait_over,
  end_wait,
  time_out,
  expire,
  go_stale,
  drop_runs,
  process,
  pop,
  Next,
  stop,
  exhausted,
  take,
  next_of,
  Ended,
  loop,
  begun,
  last_record,
  closed,
}
use Rattle.engine_spec.specs.Simulate.{ended}
use Rattle.engine_spec.specs.Page.{
  next_moment,
  after_items,
  same_key,
  is_the,
  waits_for,
  as_not_waiting,
  runs_of,
  Standing,
  started,
  joined,
  stopped,
  Met,
  Triggered,
  asked,
  Offered,
  NoChange,
  waits_in_line,
  next_in_line,
  Grown,
  acting,
  Stepped,
  Worked,
  goes_on,
  ends,
  Page,
  ByThePage,
}
use Rattle.engine_spec.proofs.Lists.{if_prop, eq_t_same, keep_append, keep_in, keep_same, each_weak, found_is}
use Rattle.engine_spec.proofs.Runs.{key_is, kept_key, in_there}
use Rattle.engine_spec.proofs.Keeps.{Only, Has, q_adds, q_update, q_flip}
use Rattle.engine_spec.proofs.Modes.{
  Reached,
  at_start,
  loop_reaches,
  single_one,
  restart_one,
  queued_max,
  parallel_max,
  decide_single,
  decide_full,
  decide_queued,
  decide_parallel,
  decide_none,
  begin_runs,
}
use Rattle.engine_spec.proofs.Distinct.{accepted_fresh, accepted_only}
use Rattle.engine_spec.proofs.Closed.{Closed, process_closed}
use Rattle.engine_spec.proofs.Enough.{somebody, accepted_max}
use Rattle.engine_spec.proofs.Steps.{still_queued}
use Rattle.engine_spec.proofs.Due.{grown_more}
use Rattle.engine_spec.proofs.Moments.{T, s_process, taken, loop_sound, begun_sound}

-- ---- a trigger

decide_restart : (max n : ℕ) → 1 ≤ n → decide Mode.restart max n ≡ stop_and_start
unfolding decide
decide_restart max zero h = absurd (omega arith)
decide_restart max (suc n) h = refl

module _ (now : ℕ) (a : Automation) where
  begin_started : (e : Engine) → begin now a false e ≡ started now a e
  unfolding begin fresh_run log_rule log adds through next_step at_once
  begin_started e = refl

  begin_joined : (e : Engine) → begin now a true e ≡ joined now a e
  unfolding begin fresh_run log_rule log adds through
  begin_joined e = refl

  -- the verdict's admission
  after : Engine → Engine
  after e = admit now (evaluate_all (moment now e) a.conditions e.cells) a e

  decided : (e : Engine) (d : Decision) → Met now a e → decide a.mode a.max (runs_of a e) ≡ d
      → after e ≡ carry_out now d a e
  unfolding after admit of_rule
  decided e d met p = rw (met.0, met.1, p)

  -- other automations' runs stay
  begin_apart : (later : Bool) (e : Engine)
      → keep (of_other_rule a.id) (begin now a later e).runs ≡ keep (of_other_rule a.id) e.runs
  begin_apart later e =
      ap (keep (of_other_rule a.id)) (begin_runs now a later e)
      ∙ keep_append (of_other_rule a.id) e.runs (fresh_run a later e.made ∷ [])
      ∙ ap {B = List Run} (λ l. keep (of_other_rule a.id) e.runs ++ l) own
      ∙ append-nil (keep (of_other_rule a.id) e.runs)
    where
      own : keep (of_other_rule a.id) (fresh_run a later e.made ∷ []) ≡ []
      own = unfold keep of_other_rule of_rule fresh_run in (rw (eq_t_same a.id))

  carry_apart : (d : Decision) (e : Engine)
      → keep (of_other_rule a.id) (carry_out now d a e).runs ≡ keep (of_other_rule a.id) e.runs
  unfolding carry_out log_rule log append with_runs
  carry_apart already_running e = refl
  carry_apart max_reached e = refl
  carry_apart start e = begin_apart false e
  carry_apart stop_and_start e =
      begin_apart false _ ∙ keep_in (of_other_rule a.id) (of_other_rule a.id) (λ x h. h) e.runs
  carry_apart wait_in_line e = begin_apart true e

  admit_apart : (v : Truth) (e : Engine)
      → keep (of_other_rule a.id) (admit now v a e).runs ≡ keep (of_other_rule a.id) e.runs
  unfolding admit uncertain
  admit_apart Yes e = go a.notes
    where
      go : (l : List Text)
          → keep (of_other_rule a.id) (◌▸◌ {A = Engine} (elim l [
            | [] ↦ carry_out now (decide a.mode a.max (tally (of_rule a.id) e.runs)) a e
            | x ∷ y ↦ e
          ]) (λ s. s)).runs ≡ keep (of_other_rule a.id) e.runs
      go [] = carry_apart (decide a.mode a.max (tally (of_rule a.id) e.runs)) e
      go (x ∷ y) = refl
  admit_apart No e = refl
  admit_apart Unknown e = refl

  triggered : 1 ≤ a.max → (e : Engine) → Triggered now a e (after e)
  unfolding after of_other_rule of_rule
  triggered room e = record {
    denied = λ h. unfold admit in (rw h);
    unclear = λ h. unfold admit in (rw h);
    noted = λ h k. unfold admit in (rw h (never a.notes k));
    first = λ met z.
        decided e start met (ap (decide a.mode a.max) z ∙ decide_none a.mode a.max room)
        ∙ (unfold carry_out in (begin_started e));
    single_warns = λ met m h.
        decided e already_running met (rw m (decide_single a.max (runs_of a e) h))
        ∙ (unfold carry_out log_rule log in refl);
    restarts = λ met m h.
        decided e stop_and_start met (rw m (decide_restart a.max (runs_of a e) h))
        ∙ (unfold carry_out log_rule log in (begin_started (stopped now a e)));
    queues = λ met m h k.
        decided e wait_in_line met (rw m (decide_queued a.max (runs_of a e) h k))
        ∙ (unfold carry_out in (begin_joined e));
    beside = λ met m k.
        decided e start met (rw m (decide_parallel a.max (runs_of a e) k)) ∙ (unfold carry_out in (begin_started e));
    full = λ met m h.
        decided e max_reached met (decide_full a.mode m a.max (runs_of a e) h)
        ∙ (unfold carry_out log_rule log in refl);
    apart = admit_apart (evaluate_all (moment now e) a.conditions e.cells) e;
  }
    where
      never : (l : List Text) → (l ≡ [] → ⊥) → ◌≡◌ {A = Engine} (elim l [
        | [] ↦ carry_out now (decide a.mode a.max (tally (of_rule a.id) e.runs)) a e
        | x ∷ y ↦ e
      ]) e
      never [] k = absurd (k refl)
      never (x ∷ y) k = refl

  offered : 1 ≤ a.max → (x from to : Text) (e : Engine) → Offered now x from to a e
  unfolding offer
  offered room x from to e = record {
    matched = λ h. rw h (unfold after log append in (triggered room (asked now a e)));
    unmatched = λ h. rw h;
  }

-- ---- work for a run: no other run is touched but the next in line, and no run is made

finish_next : (now : ℕ) (r : Run) (e : Engine)
    → ((finish now r e).runs ≡ next_in_line r.key.rule (keep (other_run r.key) e.runs))
    × ((finish now r e).made ≡ e.made)
unfolding finish log_rule log append with_runs release next_in_line queued_for of_rule in_place same_run same_key
finish_next now r e = go (find (queued_for r.key.rule) kept)
  where
    kept : List Run
    kept = keep (other_run r.key) e.runs

    ended : Engine
    ended = log_rule now (Kind.complete r.number) r.key.rule (with_runs kept e)

    go : (o : Option Run)
        → ◌≡◌ {A = List Run} (if_some (let_go now) o ended).runs (elim o [
          | none ↦ kept
          | some s ↦ each (in_place (released s)) kept
        ])
        × ((if_some (let_go now) o ended).made ≡ e.made)
    go none = unfold if_some in (refl, refl)
    go (some s) = unfold if_some let_go store with_runs add in (refl, refl)

module _ (k : Key) (before : List Run) (made : List Text) where
  -- the run goes on; it has gone on or ended
  abbrev Goes : List Run → List Text → Type 0
  Goes l m = (keep (other_run k) l ≡ keep (other_run k) before) × (m ≡ made)

  abbrev Done : List Run → List Text → Type 0
  Done l m = Worked k before l × (m ≡ made)

  abbrev G : Engine → Type 0
  G e = Has Goes e

  abbrev H : Engine → Type 0
  H e = Has Done e

  h_on : (e : Engine) → G e → H e
  h_on e g = (goes_on (unfold other_run same_run same_key in g.0), g.1)

  h_store : (r : Run) (e : Engine) → r.key ≡ k → G e → G (store r e)
  unfolding store with_runs
  h_store r e i g = (
    keep_same (other_run k) (in_place r)
        (λ x. unfold other_run same_run in
        (ap (λ (j : Key). not (eq_t j.rule k.rule && eqb j.sequence k.sequence)) (kept_key r x)))
        (λ x o. in_there r x (unlike x o)) e.runs
        ∙ g.0,
    g.1,
  )
    where
      unlike : (x : Run) → other_run k x ≡ true → same_run r.key x ≡ false
      unlike x o = subst (λ (j : Key). same_run j x ≡ false) (sym i) (by (same_run k x) (unfold other_run in o))
        where
          by : (b : Bool) → not b ≡ true → b ≡ false
          by true z = absurd (false≢true z)
          by false z = refl

  h_finish : (now : ℕ) (r : Run) (e : Engine) → r.key ≡ k → G e → H (finish now r e)
  h_finish now r e i g = (
    ends (unfold other_run same_run same_key in ((finish_next now r e).0
        ∙ ap (λ (j : Key). next_in_line j.rule (keep (other_run j) e.runs)) i
        ∙ ap (next_in_line k.rule) g.0)),
    (finish_next now r e).1 ∙ g.1,
  )

  h_tested : (now : ℕ) (v : Truth) (r : Run) (e : Engine) → r.key ≡ k → G e → H (tested now v r e)
  unfolding tested add uncertain
  h_tested now Yes r e i h = h_on e h
  h_tested now No r e i h = h_finish now r e i h
  h_tested now Unknown r e i h = h_finish now r _ i h

  h_chosen : (now : ℕ) (o : Option Actions) (src : Source) (r : Run) (e : Engine) → r.key ≡ k → G e
      → H (chosen now o src r e)
  unfolding chosen uncertain log_action log append add
  h_chosen now none src r e i h = h_finish now r _ i h
  h_chosen now (some l) src r e i h =
      h_on (store (left (l then r.actions) r) e) (h_store (left (l then r.actions) r) e i h)

  h_perform : (now : ℕ) (f : Effect) (src : Source) (r : Run) (e : Engine) → r.key ≡ k → G e
      → H (perform now f src r e)
  unfolding perform add write log_action log append go_on_after uncertain
  h_perform now (Effect.set x v) src r e i h =
      h_on (update now x v (some r.key.rule) (some src) Kind.action e)
      (q_update Goes now x v (some r.key.rule) (some src) Kind.action e h)
  h_perform now (toggle x) src r e i h = h_on (flip now x src r e) (q_flip Goes now x src r e h)
  h_perform now (delay m) src r e i h = h_on e h
  h_perform now (condition p) src r e i h = h_tested now (evaluate (moment now e) p e.cells) r _ i h
  h_perform now (choose bs d) src r e i h = h_chosen now (select (moment now e) bs d e.cells) src r e i h
  h_perform now (wait t s c) src r e i h = unfold begin_wait in
      (if_prop H (absent t.note) (λ _. h_on (store (n t s c) e) (h_store (n t s c) e i h))
      (λ _. h_finish now r _ i h))
    where
      n : Trigger → ℕ → Bool → Run
      n t s c = waits (some (record { trigger = t; deadline = now + s; continue = c; source = src })) r
  h_perform now (Effect.unknown reason) src r e i h = h_finish now r _ i h

  h_go_on : (now : ℕ) (l : Actions) (r : Run) (e : Engine) → r.key ≡ k → G e → H (go_on now l r e)
  unfolding go_on
  h_go_on now done r e i h = h_finish now r e i h
  h_go_on now (act src f rest) r e i h = h_perform now f src (left rest r) _ i (h_store (left rest r) e i h)

  module _ (now : ℕ) (e : Engine) (g : G e) where
    key_of : (r : Run) → find (same_run k) e.runs ≡ some r → r.key ≡ k
    key_of r p = key_is k r (found_is (same_run k) e.runs r p)

    h_resume : H (resume now k e)
    unfolding resume if_some
    h_resume = go (find (same_run k) e.runs) refl
      where
        go : (o : Option Run) → find (same_run k) e.runs ≡ o → H (if_some (step now) o e)
        go none p = h_on e g
        go (some r) p = unfold step in
            (if_prop H (r.queued || not (absent r.waiting)) (λ _. h_on e g)
            (λ _. h_go_on now r.actions r e (key_of r p) g))

    h_time_out : H (time_out now k e)
    unfolding time_out if_some
    h_time_out = go (find (same_run k) e.runs) refl
      where
        go : (o : Option Run) → find (same_run k) e.runs ≡ o → H (if_some (end_wait now) o e)
        go none p = h_on e g
        go (some r) p = unfold end_wait in (by r.waiting)
          where
            by : (w : Option Waiting) → H (if_some (λ w. wait_over now w r) w e)
            by none = h_on e g
            by (some w) = unfold wait_over in (pick (eqb w.deadline now) w.continue)
              where
                told : Engine
                told = log_action now (Kind.timeout w.continue) w.source r e

                pick : (b c : Bool)
                    → H (if b then (if c then add (next_step now r) (store (waits none r) told)
                    else finish now r told) else e)
                pick true true = unfold log_action log append add in
                    (h_on (store (waits none r) told) (h_store (waits none r) told (key_of r p) g))
                pick true false = unfold log_action log append in (h_finish now r told (key_of r p) g)
                pick false c = h_on e g

-- ---- all other work

expiry_same : (now : ℕ) (x : Text) (n : ℕ) (e : Engine)
    → ((go_stale now x n e).runs ≡ e.runs) × ((go_stale now x n e).made ≡ e.made)
unfolding go_stale
expiry_same now x n e = go (cell_of x e.cells)
  where
    Same : Engine → Type 0
    Same s = (s.runs ≡ e.runs) × (s.made ≡ e.made)

    go : (o : Option Cell) → Same (if_some (expire now n) o e)
    go none = unfold if_some in (refl, refl)
    go (some d) = unfold if_some expire log append with_cells add in
        (if_prop Same (eqb d.version n && not (eq_t d.value (text "unknown"))) (λ _. (refl, refl)) (λ _. (refl, refl)))

no_run_made : (now : ℕ) (rules : List Automation) (w : Work) → NoChange w → (e : Engine)
    → (process now rules w e).made ≡ e.made
unfolding process
no_run_made now rules (Work.external (Input.set x v)) z e =
    q_update (λ l made. made ≡ e.made) now x v none none Kind.external e refl
no_run_made now rules (Work.external Input.restart) z e = unfold drop_runs with_runs log append in refl
no_run_made now rules (Work.external reload) z e = unfold drop_runs with_runs log append in refl
no_run_made now rules (Work.changed x from to) z e = absurd z
no_run_made now rules (Work.resume k) z e =
    (h_resume k e.runs e.made now e (refl, refl)).1
no_run_made now rules (Work.timeout k) z e =
    (h_time_out k e.runs e.made now e (refl, refl)).1
no_run_made now rules (Work.stale x n) z e = (expiry_same now x n e).1

no_conditions : (now : ℕ) (rules others : List Automation) (w : Work) → NoChange w → (e : Engine)
    → process now rules w e ≡ process now others w e
unfolding process
no_conditions now rules others (Work.external (Input.set x v)) z e = refl
no_conditions now rules others (Work.external Input.restart) z e = refl
no_conditions now rules others (Work.external reload) z e = refl
no_conditions now rules others (Work.changed x from to) z e = absurd z
no_conditions now rules others (Work.resume k) z e = refl
no_conditions now rules others (Work.timeout k) z e = refl
no_conditions now rules others (Work.stale x n) z e = refl

nothing_left : (now : ℕ) (rules : List Automation) (k : Key) (e : Engine) → find (is_the k) e.runs ≡ none
    → (process now rules (Work.resume k) e ≡ e) × (process now rules (Work.timeout k) e ≡ e)
unfolding process resume time_out if_some same_run same_key
nothing_left now rules k e p = (rw p, rw p)

steps_as : (now : ℕ) (rules : List Automation) (k : Key) (r : Run) (e : Engine) → find (is_the k) e.runs ≡ some r
    → Stepped now r e (process now rules (Work.resume k) e)
unfolding process resume if_some step same_run same_key acting go_on
steps_as now rules k r e p = record {
  acts = λ h source effect rest q. rw (p, idle r.queued (absent r.waiting) h, q);
  ends = λ h q. rw (p, idle r.queued (absent r.waiting) h, q);
  rests = λ h. rw (p, busy r.queued (absent r.waiting) h);
}
  where
    idle : (b c : Bool) → not b && c ≡ true → b || not c ≡ false
    idle false true h = refl
    idle false false h = absurd (false≢true h)
    idle true c h = absurd (false≢true h)

    busy : (b c : Bool) → not b && c ≡ false → b || not c ≡ true
    busy false true h = absurd (false≢true (sym h))
    busy false false h = refl
    busy true c h = refl

-- records and runs made are only added
growing : (t : List Trace) (made : List Text) → Closed (λ e. Grown t e.trace × Grown made e.made)
unfolding with_cells add append with_runs add_run uncertain with_queue
growing t made = record {
  on_cells = λ l e g. g;
  on_add = λ i e g. g;
  on_append = λ r e g. (grown_more t e.trace (r ∷ []) g.0, g.1);
  on_runs = λ l e g. g;
  on_run = λ r e g. (g.0, grown_more made e.made (r.key.rule ∷ []) g.1);
  on_uncertain = λ u e g. g;
  on_queue = λ l e g. g;
}

grows : (now : ℕ) (rules : List Automation) (w : Work) (e : Engine)
    → Grown e.trace (process now rules w e).trace × Grown e.made (process now rules w e).made
grows now rules w e =
    process_closed (λ s. Grown e.trace s.trace × Grown e.made s.made) (growing e.trace e.made) now rules w
    e (([], sym (append-nil e.trace)), ([], sym (append-nil e.made)))

wakes_runs : (now : ℕ) (x from to : Text) (e : Engine)
    → (wake now x from to e).runs ≡ each (λ r. if waits_for x from to r then as_not_waiting r else r) e.runs
unfolding wake with_runs woken awaits
wakes_runs now x from to e =
    q_adds (λ l made. l ≡ each (λ r. if waits_for x from to r then as_not_waiting r else r) e.runs)
    (each (next_step now) (keep (awaits x from to) e.runs)) (with_runs (each (woken x from to) e.runs) e) refl

-- ---- moments

module _ (m : Model) where
  -- what the loop does next at an engine, and then
  abbrev on : Next → (Engine → Engine) → Engine → Engine
  on stop f e = e
  on exhausted f e = e
  on (take i l) f e = f (process i.at m.rules i.work (with_queue l e))

  on_same : (x : Next) (f g : Engine → Engine) → ((e : Engine) → f e ≡ g e) → (e : Engine) → on x f e ≡ on x g e
  on_same stop f g h e = refl
  on_same exhausted f g h e = refl
  on_same (take i l) f g h e = h _

  -- with so many items more
  run : ℕ → ℕ → Engine → Engine
  run n s e = (loop m.rules m.scenario.limits.horizon n s e).engine

  next : Engine → Next
  next e = next_of m.scenario.limits.horizon e (pop e.queue)

  run_none : (s : ℕ) (e : Engine) → run 0 s e ≡ e
  unfolding run loop next
  run_none s e = go (next e)
    where
      go : (x : Next) → ◌▸◌ {A = Ended} (elim x [
        | stop ↦ record { engine = e; steps = s; incomplete = [] }
        | exhausted ↦ record { engine = e; steps = s; incomplete = space_spent ∷ [] }
        | take i l ↦ record { engine = e; steps = s; incomplete = steps_spent ∷ [] }
      ]) (λ d. d.engine) ≡ e
      go stop = refl
      go exhausted = refl
      go (take i l) = refl

  run_on : (n s : ℕ) (e : Engine) → run (suc n) s e ≡ on (next e) (run n (s + 1)) e
  unfolding run loop next
  run_on n s e = go (next e)
    where
      go : (x : Next) → ◌▸◌ {A = Ended} (elim x [
        | stop ↦ record { engine = e; steps = s; incomplete = [] }
        | exhausted ↦ record { engine = e; steps = s; incomplete = space_spent ∷ [] }
        | take i l ↦ loop m.rules m.scenario.limits.horizon n (s + 1)
            (e ▸ with_queue l ▸ process i.at m.rules i.work)
      ]) (λ d. d.engine) ≡ on x (run n (s + 1)) e
      go stop = refl
      go exhausted = refl
      go (take i l) = refl

  moment_on : (e : Engine) → next_moment m e ≡ on (next e) (λ u. u) e
  unfolding next_moment next
  moment_on e = go (next e)
    where
      go : (x : Next) → ◌≡◌ {A = Engine} (elim x [
        | stop ↦ e
        | exhausted ↦ e
        | take i l ↦ process i.at m.rules i.work (with_queue l e)
      ]) (on x (λ u. u) e)
      go stop = refl
      go exhausted = refl
      go (take i l) = refl

  -- a moment more, before or after
  push : (f : Engine → Engine) (e : Engine) → on (next e) (λ u. next_moment m (f u)) e ≡ next_moment m (on (next e) f e)
  push f e = go (next e) refl
    where
      go : (x : Next) → next e ≡ x → on x (λ u. next_moment m (f u)) e ≡ next_moment m (on x f e)
      go stop p = sym (moment_on e ∙ ap (λ (x : Next). on x (λ u. u) e) p)
      go exhausted p = sym (moment_on e ∙ ap (λ (x : Next). on x (λ u. u) e) p)
      go (take i l) p = refl

  run_next : (n s : ℕ) (e : Engine) → run (suc n) s e ≡ next_moment m (run n s e)
  run_next zero s e =
      run_on zero s e ∙ on_same (next e) (run zero (s + 1)) (λ u. u) (run_none (s + 1)) e ∙ sym (moment_on e)
      ∙ sym (ap (next_moment m) (run_none s e))
  run_next (suc n) s e =
      run_on (suc n) s e
      ∙ on_same (next e) (run (suc n) (s + 1)) (λ u. next_moment m (run n (s + 1) u)) (run_next n (s + 1)) e
      ∙ push (run n (s + 1)) e ∙ sym (ap (next_moment m) (run_on n s e))

-- ---- the theorem

module _ (file : List ℕ) (m : Model) (ok : accepted file ≡ answer m) (areas : Areas) (cells : List Cell)
    (events : List Event) (n : ℕ) where
  here : Engine
  here = after_items areas m cells events n

  sound : (a : Automation) → Only a m.rules → T a 0 [] here
  unfolding here
  sound a only =
      loop_sound a m.rules only m.scenario.limits.horizon n 0 _
      (begun_sound a m.rules only areas m.start cells (unsupported m.rules) events)

  stands : {a : Automation} → Memᴰ a m.rules → Standing a here
  unfolding here of_rule
  stands {a} i = record {
    single_one = single_one a m.rules only here reached;
    restart_one = restart_one a m.rules only here reached;
    queued_max = queued_max a m.rules only here reached;
    parallel_max = parallel_max a m.rules only here reached;
    line = (sound a only).line;
  }
    where
      only : Only a m.rules
      only = accepted_only file m ok i

      reached : Reached m.rules here
      reached =
          loop_reaches m.rules m.scenario.limits.horizon n 0 _
          (at_start areas m.start cells (unsupported m.rules) events)

  -- some automation, for what holds of all runs
  one_of_them : (a : Automation) × Only a m.rules
  one_of_them = somebody m.rules (accepted_fresh file m ok)

  all_sound : T one_of_them.0 0 [] here
  all_sound = sound one_of_them.0 one_of_them.1

  -- the page holds, from given cells and with given events, after n items of work
  page : Page m (after_items areas m cells events n)
  unfolding here
  page = record {
    standing = stands;
    order = all_sound.order;
    due = each_weak _ _ (λ x g. g.due refl) here.runs all_sound.good;
    given = each_weak _ _ (λ x g. g.fit.old) here.runs all_sound.good;
    meant = all_sound.meant;
    wakes = λ now x from to. wakes_runs now x from to here;
    offers = λ now x from to. unfold process trigger in refl;
    offered = λ i now x from to s. offered now _ (accepted_max file m ok i) x from to s;
    unasked = λ now w z others. no_conditions now m.rules others w z here;
    unmade = λ now w z. no_run_made now m.rules w z here;
    stepped = λ now k r p. steps_as now m.rules k r here p;
    step_alone = λ now k. unfold process in (h_resume k here.runs here.made now here (refl, refl)).0;
    timeout_alone = λ now k. unfold process in (h_time_out k here.runs here.made now here (refl, refl)).0;
    acts_at_once = λ i l p z.
        each_weak _ _ (λ x g. g.soon) (process i.at m.rules i.work (with_queue l here)).runs
        (s_process one_of_them.0 here all_sound (waits_in_line here.runs)
        (still_queued here.runs all_sound.order) i.at l m.rules i.work p z).good;
    gone = λ now k p. nothing_left now m.rules k here p;
    writes = λ now x v.
        unfold process in (q_update (λ l made. l ≡ here.runs) now x v none none Kind.external here refl);
    expires = λ now x k. unfold process in (expiry_same now x k here).0;
    restarts = λ now. unfold process drop_runs with_runs log append in refl;
    reloads = λ now. unfold process drop_runs with_runs log append in refl;
    recorded = λ now w. (grows now m.rules w here).0;
    counted = λ now w. (grows now m.rules w here).1;
    kept = λ i l p.
        (taken one_of_them.0 m.rules one_of_them.1 here all_sound i.at i.work l p).kept;
  }

last_runs : (horizon : ℕ) (l : List Text) (e : Engine) → (last_record horizon l e).runs ≡ e.runs
last_runs h [] e = unfold last_record log append in refl
last_runs h (t ∷ l) e = unfold last_record in refl

-- the modes are right, by the page, in every simulation of an accepted file, whatever cells it starts from and whatever the
-- events
pub modes_right : (file : List ℕ) (m : Model) → accepted file ≡ answer m → (areas : Areas) (cells : List Cell)
    (events : List Event) → ByThePage areas m cells events
modes_right file m ok areas cells events = record {
  moments = page file m ok areas cells events;
  at_first = unfold run in (run_none m 0 (begun areas m.start cells (unsupported m.rules) events));
  at_next = λ n. unfold run in (run_next m n 0 (begun areas m.start cells (unsupported m.rules) events));
  at_last = unfold ended closed in (last_runs m.scenario.limits.horizon _ _);
}
