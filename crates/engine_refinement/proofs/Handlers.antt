-- The work of one item: a run goes on, a wait's time is up, a value expires, runs are dropped, a write comes from outside.
-- `process_is`: the machine does with an item what the definition does.
use Rattle.std.specs.Prelude.{if◌then◌else◌, Option, Some, None}
use mathlib.Core.Path.{◌≡◌, refl, sym, ap, ◌∙◌, subst}
use mathlib.Core.List.{List, [], ◌∷◌}
use mathlib.Core.Bool.{Bool, true, false, not, ◌||◌, ◌&&◌}
use mathlib.Core.Option.{none, some}
use Prim.Native.Nat.{ℕ, zero, suc, ◌+◌, ◌<◌}
use native.Mathlib.Omega.{arith}
use lib.ListN.{length, get_or, set}
use lib.Dec.{ltb, eqb}
use borrow.Author.Tests.{le-ltb, eq-eqb, ne_eqb}
use Rattle.texts.specs.Lists.{absent, find, each, through}
use Rattle.texts.specs.Texts.{Text, text, eq_t}
use Rattle.model_spec.specs.Model.{Actions, done, Model}
use Rattle.queue.specs.declared.Work.{Work as QWork}
use Rattle.queue.specs.declared.Work.TheVariants as queue
use Rattle.runs.specs.Lists.{place_from}
use Rattle.runs.specs.Runs.{is_run}
use Rattle.runs.specs.declared.Run.{Run as ARun}
use Rattle.runs.specs.declared.Source.{Source as ASource}
use Rattle.runs.specs.declared.Wait.{Wait}
use Rattle.engine_spec.specs.Cells.{cell_of, put}
use Rattle.engine_spec.specs.Records.{Run, Work, Kind, Engine}
use Rattle.engine_spec.specs.Words.{kind_number, detail_number}
use Rattle.engine_spec.specs.Changes.{if_some, with_cells, add, adds}
use Rattle.engine_spec.specs.Engine.{
  same_run,
  store,
  left,
  waits,
  next_step,
  at_once,
  log,
  log_action,
  finish,
  change_of,
  go_on,
  step,
  resume,
  wait_over,
  end_wait,
  time_out,
  expire,
  go_stale,
  drop_runs,
  process,
}
use Rattle.engine_spec.proofs.Closed.{c_finish, c_store, c_adds}
use Rattle.model_walk.proofs.Found.{Case, is_true, is_false, case}
use Rattle.engine_fields.specs.Fields.{name, entity_of}
use Rattle.engine_evaluate.specs.Actions.{put_places, top_m, action_m}
use Rattle.engine_state.specs.declared.Move.{Move}
use Rattle.engine_state.specs.Machine.{Machine, stored_m}
use Rattle.engine_state.specs.Changes.{log_m, log_action_m}
use Rattle.engine_update.specs.Update.{cells, move, changed_m, setting}
use Rattle.engine_modes.specs.Modes.{now_m}
use Rattle.engine_trigger.specs.Runs.{no_run, put_run_m, phase_m, finish_m}
use Rattle.engine_dispatch.specs.Resume.{
  act_m,
  act_next_m,
  go_on_run_m,
  go_on_m,
  going_phase,
  going_m,
  resume_run_m,
  resume_at_m,
  resume_m,
}
use Rattle.engine_handlers.specs.Handlers.{
  over_on_m,
  over_end_m,
  wait_over_m,
  time_phase_m,
  time_run_m,
  time_at_m,
  time_out_m,
  expire_to_m,
  expire_m,
  stale_at_m,
  go_stale_m,
  drop_all_m,
  external_m,
}
use Rattle.engine_dispatch.specs.Dispatch.{process_m}
use Rattle.engine_refinement.specs.Meaning.{
  key_of,
  kind_of,
  work_of,
  meant_run,
  wait_of,
  waiting_of,
  source_of,
  actions_at,
  cell_at,
  cells_of,
  Tabled,
}
use Rattle.engine_refinement.specs.Events.{GoodWork}
use Rattle.engine_refinement.proofs.Evaluate.{Sought, here, nowhere, cell_is, name_in, fixed_is, Moved}
use Rattle.engine_refinement.proofs.Stack.{Stepped, stepped}
use Rattle.engine_refinement.proofs.Full.{s_next, s_finish, s_changed}
use Rattle.engine_refinement.proofs.Overflow.{overflow_stays}
use Rattle.engine_refinement.proofs.Relation.{
  GoodRun,
  Celled,
  Live,
  Sim,
  live,
  follow,
  weaker,
  runs_are,
  cells_are,
  run_test,
}
use Rattle.engine_refinement.proofs.Words.{Tells}
use Rattle.engine_refinement.proofs.Update.{
  Over,
  log_plain_is,
  log_action_is,
  log_write_is,
  now_is,
  changed_is,
  stored_is,
  update_is,
}
use Rattle.engine_refinement.proofs.Runs.{run_good, run_is, store_is, finish_is}
use Rattle.engine_refinement.proofs.Triggers.{trigger_is}
use Rattle.engine_refinement.proofs.Perform.{still_here, put_here, keyed, action_runs, perform_is}
use Rattle.engine_refinement.proofs.Lists as lists

set_own : {B : Type 0} (l : List B) (j : ℕ) (d : B) → j < length l → set l j (get_or l j d) ≡ l
set_own [] j d h = refl
set_own (y ∷ l) zero d h = refl
set_own {B} (y ∷ l) (suc j) d h = ap (λ (m : List B). y ∷ m) (set_own l j d (omega arith))

module _ (f x : List ℕ) (ts : List Text) (mo : Model) (tb : Tabled f x ts mo) where
  abbrev T : ℕ → Text
  T p = get_or ts p []

  abbrev rules : ℕ
  rules = length mo.rules

  abbrev L : ℕ → ℕ → Machine → Engine → Type 0
  L = Live f x ts mo tb

  abbrev S : ℕ → ℕ → Machine → Engine → Type 0
  S = Sim f x ts mo tb

  abbrev R : ARun → Run
  R = meant_run x ts f

  abbrev G : List ℕ → ARun → Type 0
  G = GoodRun f x ts mo tb

  abbrev Says : ℕ → ℕ → Kind → Type 0
  Says = Tells f x ts mo tb

  -- ---- a run goes on

  stepped_run : (r : ARun) (p : Stepped f x ts mo tb r) → R (put_places p.depth p.places r) ≡ left p.rest (R r)
  unfolding meant_run
  stepped_run r p = ap (λ (y : Actions). left y (R r)) p.rest_is

  run_actions : (r : ARun) (a : Actions) → actions_at x ts f r.depth r.places ≡ a → (R r).actions ≡ a
  unfolding meant_run
  run_actions r a e = e

  none_left : (r : ARun) → r.depth ≡ 0 → actions_at x ts f r.depth r.places ≡ done
  unfolding actions_at
  none_left r e = rw e

  action_sequences : (k d : ℕ) (s : ASource) (r : ARun) (m : Machine) → (log_action_m k d s r m).sequences ≡ m.sequences
  unfolding log_action_m log_m
  action_sequences k d s r m = by (eqb m.«overflow» 0) (ltb (length m.records) m.record_size) _ _ refl refl
    where
      by : (a b : Bool) (p q : Machine) → p.sequences ≡ m.sequences → q.sequences ≡ m.sequences →
          (if a then (if b then p else q) else m).sequences ≡ m.sequences
      by true true p q g h = g
      by true false p q g h = h
      by false b p q g h = refl

  module _ {now room : ℕ} {m : Machine} {e : Engine} (l : L now (suc room) m e) (k : ℕ) (h : k < length m.runs) where
    -- a run that goes on writes at most once
    less : L now room m e
    less = weaker f x ts mo tb (omega arith) l

    abbrev r : ARun
    r = get_or m.runs k no_run

    g : G m.sequences r
    g = run_good f x ts mo tb l k h

    act_is : (n : ℕ) → r.depth ≡ suc n →
        S now room (act_next_m f x k r (action_m f x (top_m r).position) m) (go_on now (R r).actions (R r) e)
    unfolding act_next_m act_m go_on
    act_is n z =
        let p = stepped f x ts mo tb r n z g.places in
        let q = put_places p.depth p.places r in
        let gq : G m.sequences q = record { rule = g.rule; old = g.old; places = p.good; phase = g.phase } in
        let s = (action_m f x (top_m r).position).source in
        let src : source_of s ≡ p.src = ap (λ (y : ℕ). record { line = y; column = s.column }) p.line
        ∙ ap (λ (y : ℕ). record { line = p.src.line; column = y }) p.column in
        rw (p.after, run_actions r _ p.is, ← stepped_run r p, ← src)
        (perform_is f x ts mo tb now k q s g.rule (store_is f x ts mo tb l k h q gq refl refl) (put_here k q m h) gq
        (action_m f x (top_m r).position).effect p.eff p.deep p.acts p.pass p.low)

    go_on_is : S now room (go_on_m f x k m) (go_on now (R r).actions (R r) e)
    unfolding go_on_m go_on_run_m go_on
    go_on_is = rw (run_is f x ts mo tb l k h) (by r.depth refl)
      where
        by : (d : ℕ) → r.depth ≡ d →
            S now room (if eqb r.depth 0 then finish_m k m else act_next_m f x k r (action_m f x (top_m r).position) m)
            (go_on now (R r).actions (R r) e)
        by zero z =
            rw (eq-eqb r.depth 0 z)
            (subst (λ (a : Actions). S now room (finish_m k m) (go_on now a (R r) e))
            (sym (run_actions r done (none_left r z))) (finish_is f x ts mo tb less k r
            (record { inside = h; automation = refl; sequence = refl; number = refl })))
        by (suc n) z = rw (ne_eqb r.depth 0 (λ o. absurd (omega arith))) (act_is n z)

    resting : (b : Bool) (p : Option Wait) {B : Type 0} (u v : B) →
        (if b || not (absent (waiting_of x ts f p)) then u else v) ≡ (if (if b then false else going_phase p) then v else u)
    unfolding absent going_phase
    resting true p u v = refl
    resting false None u v = refl
    resting false (Some w) u v = refl

    step_is : S now room (resume_run_m f x k r m) (step now (R r) e)
    unfolding resume_run_m step going_m meant_run
    step_is =
        rw (resting r.queued r.phase e (go_on now (R r).actions (R r) e))
        (by (if r.queued then false else going_phase r.phase))
      where
        by : (b : Bool) → S now room (if b then go_on_m f x k m else m) (if b then go_on now (R r).actions (R r) e else e)
        by true = go_on_is
        by false = live less

    -- ---- a wait's time is up

    timing : (c : Bool) → Says 17 (if c then 1 else 0) (Kind.timeout c)
    unfolding kind_of kind_number detail_number
    timing true = record { is = refl; number = refl; detail = refl }
    timing false = record { is = refl; number = refl; detail = refl }

    told_time : (w : Wait) (c : Bool) →
        S now room (log_action_m 17 (if c then 1 else 0) w.source r m)
        (log_action now (Kind.timeout c) (source_of w.source) (R r) e)
    told_time w c =
        log_action_is f x ts mo tb less 17 (if c then 1 else 0) w.source r
        (Kind.timeout c) (timing c) g.rule

    calm : R (phase_m None r) ≡ waits none (R r)
    unfolding meant_run
    calm = refl

    -- the run goes on after its wait
    let_on : (n : Machine) (d : Engine) → n.runs ≡ m.runs → n.sequences ≡ m.sequences → L now room n d →
        S now room (now_m r (put_run_m k (phase_m None r) n)) (add (next_step now (R r)) (store (waits none (R r)) d))
    let_on n d q p y =
        let o = still_here {m = m} {n = n} (record { inside = h; is = refl }) q in
        now_is f x ts mo tb
        (subst (λ (u : Run). L now room (put_run_m k (phase_m None r) n) (store u d)) calm
        (store_is f x ts mo tb y k o.inside (phase_m None r)
        (rw p (record { rule = g.rule; old = g.old; places = g.places; phase = tt }))
        (ap (λ (u : ARun). u.automation) o.is) (ap (λ (u : ARun). u.sequence) o.is))) r
        g.rule

    over_on_is : (w : Wait) →
        S now room (over_on_m k r w m)
        (add (next_step now (R r)) (store (waits none (R r))
        (log_action now (Kind.timeout true) (source_of w.source) (R r) e)))
    unfolding over_on_m
    over_on_is w =
        follow f x ts mo tb (λ (n : Machine). now_m r (put_run_m k (phase_m None r) n))
        (λ (d : Engine). add (next_step now (R r)) (store (waits none (R r)) d)) (told_time w true)
        (λ y. let_on _ _ (action_runs 17 1 w.source r m) (action_sequences 17 1 w.source r m) y)
        (λ n z p. s_next n z r _ _ (record { is = p.is }))
        (λ n o. (overflow_stays n).on_add _ _ (c_store (Over n) (overflow_stays n) (waits none (R r)) _ o))

    over_end_is : (w : Wait) →
        S now room (over_end_m k r w m) (finish now (R r)
        (log_action now (Kind.timeout false) (source_of w.source) (R r) e))
    unfolding over_end_m
    over_end_is w =
        follow f x ts mo tb (finish_m k) (finish now (R r)) (told_time w false)
        (λ y. finish_is f x ts mo tb y k r (keyed f x ts mo tb
        (still_here {m = m} (record { inside = h; is = refl }) (action_runs 17 0 w.source r m))))
        (λ n z p. s_finish n z k _ p)
        (λ n o. c_finish (Over n) (overflow_stays n) now (R r) _ o)

    over_is : (w : Wait) → S now room (wait_over_m k r w m) (wait_over now (wait_of x ts f w) (R r) e)
    unfolding wait_over_m wait_over wait_of
    over_is w =
        subst
        (λ (t : ℕ). S now room (if eqb w.deadline t
        then (if w.continue_on_timeout then over_on_m k r w m else over_end_m k r w m) else m)
        (wait_over now (wait_of x ts f w) (R r) e))
        (sym l.time) (by (eqb w.deadline now) w.continue_on_timeout)
      where
        by : (a b : Bool) → S now room (if a then (if b then over_on_m k r w m else over_end_m k r w m) else m)
            (if a then (if b then add (next_step now (R r))
            (store (waits none (R r)) (log_action now (Kind.timeout b) (source_of w.source) (R r) e))
            else finish now (R r) (log_action now (Kind.timeout b) (source_of w.source) (R r) e)) else e)
        by true true = over_on_is w
        by true false = over_end_is w
        by false b = live less

    timed : (p : Option Wait) → S now room (time_phase_m k r p m) (if_some (λ w. wait_over now w (R r)) (waiting_of x ts f p) e)
    unfolding time_phase_m if_some
    timed None = live less
    timed (Some w) = over_is w

    time_is : S now room (time_run_m k r m) (end_wait now (R r) e)
    unfolding time_run_m end_wait meant_run
    time_is = timed r.phase

  -- ---- the run with a key
  module _ {now room : ℕ} {m : Machine} {e : Engine} (l : L now (suc room) m e) (a n : ℕ) (h : a < rules) where
    searched : lists.Sought R (is_run a n) (same_run (key_of x ts a n)) no_run m.runs (place_from (is_run a n) 0 m.runs) 0
    searched =
        lists.sought R (is_run a n) (same_run (key_of x ts a n)) no_run m.runs 0
        (lists.each_imp (G m.sequences) _ (run_test f x ts mo tb m.sequences a n h) m.runs l.runs.good)

    resume_is : S now room (resume_m f x a n m) (resume now (key_of x ts a n) e)
    unfolding resume_m resume resume_at_m if_some
    resume_is = by searched
      where
        by : lists.Sought R (is_run a n) (same_run (key_of x ts a n)) no_run m.runs (place_from (is_run a n) 0 m.runs) 0 →
            S now room (resume_at_m f x (place_from (is_run a n) 0 m.runs) m)
            (if_some (step now) (find (same_run (key_of x ts a n)) e.runs) e)
        by (lists.here k p o q t) =
            let z : 0 + k ≡ k = omega arith in
            let y : find (same_run (key_of x ts a n)) e.runs ≡ some (R (get_or m.runs k no_run)) =
            ap (find (same_run (key_of x ts a n))) l.runs.is ∙ q in
            rw (p ∙ ap Some z, y, run_is f x ts mo tb l k o) (step_is l k o)
        by (lists.nowhere p q) =
            let y : find (same_run (key_of x ts a n)) e.runs ≡ none =
            ap (find (same_run (key_of x ts a n))) l.runs.is ∙ q in
            rw (p, y) (live (weaker f x ts mo tb (omega arith) l))

    time_out_is : S now room (time_out_m a n m) (time_out now (key_of x ts a n) e)
    unfolding time_out_m time_out time_at_m if_some
    time_out_is = by searched
      where
        by : lists.Sought R (is_run a n) (same_run (key_of x ts a n)) no_run m.runs (place_from (is_run a n) 0 m.runs) 0 →
            S now room (time_at_m (place_from (is_run a n) 0 m.runs) m)
            (if_some (end_wait now) (find (same_run (key_of x ts a n)) e.runs) e)
        by (lists.here k p o q t) =
            let z : 0 + k ≡ k = omega arith in
            let y : find (same_run (key_of x ts a n)) e.runs ≡ some (R (get_or m.runs k no_run)) =
            ap (find (same_run (key_of x ts a n))) l.runs.is ∙ q in
            rw (p ∙ ap Some z, y, run_is f x ts mo tb l k o) (time_is l k o)
        by (lists.nowhere p q) =
            let y : find (same_run (key_of x ts a n)) e.runs ≡ none =
            ap (find (same_run (key_of x ts a n))) l.runs.is ∙ q in
            rw (p, y) (live (weaker f x ts mo tb (omega arith) l))

  -- ---- a value expires

  staling : Says 3 0 Kind.stale
  unfolding kind_of kind_number detail_number
  staling = record { is = refl; number = refl; detail = refl }

  restarting : Says 4 0 Kind.restart
  unfolding kind_of kind_number detail_number
  restarting = record { is = refl; number = refl; detail = refl }

  outside : Says 1 0 Kind.external
  unfolding kind_of kind_number detail_number
  outside = record { is = refl; number = refl; detail = refl }

  module _ {now room : ℕ} {m : Machine} {e : Engine} (l : L now room m e) (j : ℕ) (h : j < length mo.scenario.entities)
    where
      abbrev old : ℕ
      old = get_or m.values j 0

      abbrev gone : ℕ
      gone = get_or x 6 0

      abbrev X : Text
      X = T (name x j)

      celled : Celled f x ts mo tb (set m.values j gone) m.versions (put X (T gone) 0 e.cells)
      celled =
          subst (λ (ns : List ℕ). Celled f x ts mo tb (set m.values j gone) ns (put X (T gone) 0 e.cells))
          (set_own m.versions j 0 (omega (arith, l.cells.long, tb.few_entities)))
          (stored_is f x ts mo tb m.values m.versions e.cells l.cells j gone 0 (get_or m.versions j 0) h
          tb.unknown.is_in (omega arith))

      abbrev mv : Move
      mv = move (name x j) old gone

      moved : Moved f x ts mo tb mv
      moved = record {
        entity_in = name_in f x ts mo tb j h;
        from_in = l.cells.valued.in_texts j h;
        to_in =
            tb.unknown.is_in;
      }

      expire_is : S now room (expire_m x j m) (adds (change_of now X (T old) (T gone))
          (log now Kind.stale none none (some (record { entity = X; before = T old; after = T gone }))
          (with_cells (put X (T gone) 0 e.cells) e)))
      unfolding expire_m expire_to_m
      expire_is =
          follow f x ts mo tb (changed_m mv) (adds (change_of now X (T old) (T gone)))
          (log_write_is f x ts mo tb (cells_are f x ts mo tb l (stored_m (cells m) j gone) (put X (T gone) 0 e.cells)
          celled
          l.low) (setting (name x j) gone 3 None None) mv Kind.stale staling tt moved)
          (λ y. changed_is f x ts mo tb y mv moved)
          (λ n z p. s_changed n z mv _ p)
          (λ n o. c_adds (Over n) (overflow_stays n) (change_of now X (T old) (T gone)) _ o)

      same_value : eq_t (T old) (text "unknown") ≡ eqb old gone
      same_value = fixed_is f x ts mo tb old gone (text "unknown") (l.cells.valued.in_texts j h) tb.unknown

      one_change : eqb old gone ≡ false →
          adds (change_of now X (T old) (text "unknown")) ≡ add (at_once now (Work.changed X (T old) (text "unknown")))
      unfolding change_of adds through
      one_change b = rw (same_value ∙ b)

      stale_is : (n : ℕ) → S now room (stale_at_m x j n m) (expire now n (cell_at x ts m.values m.versions j) e)
      unfolding stale_at_m expire cell_at
      stale_is n =
          rw (le-ltb 31 j (omega (arith, tb.few_entities)), same_value)
          (by (eqb (get_or m.versions j 0) n) (case (eqb old gone)))
        where
          expired : eqb old gone ≡ false →
              S now room (expire_m x j m)
              (add (at_once now (Work.changed X (T old) (text "unknown")))
              (log now Kind.stale none none (some (record { entity = X; before = T old; after = text "unknown" }))
              (with_cells (put X (text "unknown") 0 e.cells) e)))
          expired b =
              rw (← one_change b)
              (subst (λ (t : Text). S now room (expire_m x j m)
              (adds (change_of now X (T old) t) (log now Kind.stale none none
              (some (record { entity = X; before = T old; after = t })) (with_cells (put X t 0 e.cells) e))))
              tb.unknown.is_text expire_is)

          by : (a : Bool) → Case (eqb old gone) → S now room (if a then (if eqb old gone then m else expire_m x j m) else m)
              (if a && not (eqb old gone) then add (at_once now (Work.changed X (T old) (text "unknown")))
              (log now Kind.stale none none (some (record { entity = X; before = T old; after = text "unknown" }))
              (with_cells (put X (text "unknown") 0 e.cells) e)) else e)
          by true (is_true b) = rw b (live l)
          by true (is_false b) = rw b (expired b)
          by false c = live l

  none_stale : (n : ℕ) (m : Machine) → stale_at_m x 32 n m ≡ m
  unfolding stale_at_m
  none_stale n m = refl

  go_stale_is : {now room : ℕ} {m : Machine} {e : Engine} → L now room m e → (a n : ℕ) → a < length ts →
      S now room (go_stale_m x a n m) (go_stale now (T a) n e)
  unfolding go_stale_m go_stale if_some
  go_stale_is {now} {room} {m} {e} l a n h = by (cell_is f x ts mo tb m.values m.versions a h)
    where
      by : Sought f x ts mo tb a m.values m.versions (entity_of x a) (cells_of x ts m.values m.versions) →
          S now room (stale_at_m x (entity_of x a) n m) (if_some (expire now n) (cell_of (T a) e.cells) e)
      by (here j g o p q) =
          let y : cell_of (T a) e.cells ≡ some (cell_at x ts m.values m.versions j) =
          ap (cell_of (T a)) l.cells.is ∙ q in
          rw (o, y) (stale_is l j g n)
      by (nowhere o q) =
          let y : cell_of (T a) e.cells ≡ none = ap (cell_of (T a)) l.cells.is ∙ q in
          rw (o, y, none_stale n m) (live l)

  -- ---- runs that are dropped

  drop_is : {now room : ℕ} {m : Machine} {e : Engine} → L now room m e → S now room (drop_all_m m) (drop_runs now e)
  unfolding drop_all_m drop_runs each
  drop_is {now} {room} {m} {e} l =
      log_plain_is f x ts mo tb
      (runs_are f x ts mo tb l [] [] (record { is = refl; good = tt; order = tt })) 4 Kind.restart restarting

  -- ---- an item

  -- an item writes once at most, or begins at most 32 runs
  pub process_is : {now room : ℕ} {m : Machine} {e : Engine} → L now (room + 32) m e → (w : QWork) →
      GoodWork f x ts mo w → S now room (process_m f x w m) (process now mo.rules (work_of x ts w) e)
  unfolding process_m process work_of external_m
  process_is l (queue.Set a v) h =
      update_is f x ts mo tb (weaker f x ts mo tb (omega arith) l) (setting a v 1 None None) h.0.0
      h.0.1.0 h.0.1.1 h.1.1 Kind.external outside tt
  process_is l queue.Restart h = drop_is (weaker f x ts mo tb (omega arith) l)
  process_is l queue.Reload h = drop_is (weaker f x ts mo tb (omega arith) l)
  process_is {now} l (queue.Changed a v u) h =
      trigger_is f x ts mo tb now (move a v u) (record { entity_in = h.0; from_in = h.1.0; to_in = h.1.1 }) l
  process_is l (queue.Resume a n) h = resume_is (weaker f x ts mo tb (omega arith) l) a n h
  process_is l (queue.Timeout a n) h = time_out_is (weaker f x ts mo tb (omega arith) l) a n h
  process_is l (queue.Stale a n) h = go_stale_is (weaker f x ts mo tb (omega arith) l) a n h
