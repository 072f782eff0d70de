-- A simulation that isn't refused is the same in larger areas. Each change of the engine does the same in both, unless an
-- area overflows; and a note of an overflow stays.
use Rattle.std.specs.Prelude.{if◌then◌else◌}
use Prim.Native.Nat.{ℕ, zero, suc, ◌+◌, ◌≤◌}
use mathlib.Core.Path.{◌≡◌, refl, ap, ◌∙◌}
use mathlib.Core.Bool.{Bool, true, false, not, ◌&&◌, ◌||◌}
use mathlib.Core.List.{List, [], ◌∷◌, ◌++◌}
use mathlib.Core.Option.{Option, none, some}
use native.Mathlib.Omega.{arith}
use lib.Dec.{eqb}
use lib.ListN.{length}
use Rattle.texts.specs.Lists.{◌▸◌, absent, any, keep, find, tally, each, flat, through}
use Rattle.texts.specs.Texts.{Text, text, eq_t}
use Rattle.model_spec.specs.Answer.{answer}
use Rattle.model_spec.specs.Validate.{undecided}
use Rattle.model_spec.specs.Model.{
  Source,
  Trigger,
  Effect,
  toggle,
  delay,
  condition,
  choose,
  wait,
  Actions,
  done,
  act,
  Automation,
  Input,
  reload,
  Event,
  Model,
}
use Rattle.engine_spec.specs.Cells.{Cell, cell_of, value_of, put}
use Rattle.engine_spec.specs.Kleene.{Truth, Yes, No, Unknown}
use Rattle.engine_spec.specs.Truth.{evaluate, evaluate_all, matches}
use Rattle.engine_spec.specs.Unsupported.{unsupported}
use Rattle.engine_spec.specs.Reasons.{toggle_of_unknown, space_spent, steps_spent}
use Rattle.engine_spec.specs.Modes.{Decision, already_running, max_reached, start, stop_and_start, wait_in_line, decide}
use Rattle.engine_spec.specs.Records.{Key, Waiting, Run, Work, Item, Kind, Change, Trace, Areas, Engine}
use Rattle.engine_spec.specs.Changes.{
  if_some,
  noted,
  with_cells,
  add,
  append,
  with_runs,
  add_run,
  uncertain,
  adds,
  with_queue,
}
use Rattle.engine_spec.specs.Engine.{
  same_run,
  of_rule,
  other_run,
  of_other_rule,
  queued_for,
  in_place,
  store,
  left,
  fresh_run,
  awaits,
  woken,
  toggled,
  select,
  moment,
  next_step,
  log,
  log_rule,
  log_action,
  expiry,
  expiry_of,
  change_of,
  update,
  let_go,
  release,
  finish,
  wake,
  begin,
  carry_out,
  admit,
  offer,
  trigger,
  go_on_after,
  write,
  flip,
  tested,
  chosen,
  begin_wait,
  perform,
  go_on,
  step,
  resume,
  wait_over,
  end_wait,
  time_out,
  expire,
  go_stale,
  drop_runs,
  process,
  pop,
  Next,
  stop,
  exhausted,
  take,
  next_of,
  Ended,
  loop,
  event_item,
  begun,
  left_over,
  last_record,
  closed,
}
use Rattle.engine_spec.specs.Simulate.{ended, outcome, unless_full, simulated}
use Rattle.engine_spec.proofs.Lists.{lt-leb}
use Rattle.engine_spec.proofs.Closed.{sticky, had_room}
use Rattle.engine_spec.proofs.Distinct.{answer_eq, refused_answer}
use Rattle.engine_monotone.specs.Larger.{Larger, SameInLarger}

-- ---- notes

fresh : (n used size : ℕ) → used + 1 ≤ size → noted n used size none ≡ none
unfolding noted
fresh n used size h = rw (lt-leb size used h)

module _ (A B : Areas) (larger : Larger A B) where
  -- the engine with the larger areas, none of them full
  abbrev wide : Engine → Engine
  wide e = record {
    cells = e.cells;
    queue = e.queue;
    runs = e.runs;
    made = e.made;
    trace = e.trace;
    unknown = e.unknown;
    overflow = none;
    areas = B;
    start = e.start;
  }

  -- f does the same in the larger areas unless an area overflows
  record Same (f : Engine → Engine) : Type 0 where
    keeps : (e : Engine) → e.areas ≡ A → (f e).areas ≡ A
    stays : (e : Engine) → (f e).overflow ≡ none → e.overflow ≡ none
    same : (e : Engine) → e.areas ≡ A → (f e).overflow ≡ none → f (wide e) ≡ wide (f e)

  -- ---- ways to put changes together

  idle : Same (λ e. e)
  idle = record { keeps = λ e a. a; stays = λ e o. o; same = λ e a o. refl }

  infixr 40 ◌then◌
  ◌then◌ : {f g : Engine → Engine} → Same f → Same g → Same (λ e. g (f e))
  ◌then◌ {f} {g} s t = record {
    keeps = λ e a. t.keeps (f e) (s.keeps e a);
    stays = λ e o. s.stays e (t.stays (f e) o);
    same = λ e a o. ap g (s.same e a (t.stays (f e) o)) ∙ t.same (f e) (s.keeps e a) o;
  }

  -- a change that looks at a part of the engine which the areas don't touch
  with : {X : Type 0} (k : Engine → X) → ((e : Engine) → k (wide e) ≡ k e) → (h : X → Engine → Engine) →
      ((x : X) → Same (h x)) → Same (λ e. h (k e) e)
  with {X} k u h s = record {
    keeps = λ e a. (s (k e)).keeps e a;
    stays = λ e o. (s (k e)).stays e o;
    same = λ e a o. ap (λ (x : X). h x (wide e)) (u e) ∙ (s (k e)).same e a o;
  }

  either : {f g : Engine → Engine} (b : Bool) → Same f → Same g → Same (λ e. if b then f e else g e)
  either true s t = s
  either false s t = t

  maybe : {X : Type 0} (f : X → Engine → Engine) → ((x : X) → Same (f x)) → (o : Option X) → Same (if_some f o)
  unfolding if_some
  maybe f s none = idle
  maybe f s (some x) = s x

  -- ---- primitive changes

  s_cells : (l : List Cell) → Same (with_cells l)
  unfolding with_cells
  s_cells l = record { keeps = λ e a. a; stays = λ e o. o; same = λ e a o. refl }

  s_runs : (l : List Run) → Same (with_runs l)
  unfolding with_runs
  s_runs l = record { keeps = λ e a. a; stays = λ e o. o; same = λ e a o. refl }

  s_uncertain : (t : Text) → Same (uncertain t)
  unfolding uncertain
  s_uncertain t = record { keeps = λ e a. a; stays = λ e o. o; same = λ e a o. refl }

  s_queue : (l : List Item) → Same (with_queue l)
  unfolding with_queue
  s_queue l = record { keeps = λ e a. a; stays = λ e o. o; same = λ e a o. refl }

  s_add : (i : Item) → Same (add i)
  unfolding add
  s_add i = record {
    keeps = λ e a. a;
    stays = λ e o. sticky 41 (length e.queue) e.areas.queue e.overflow o;
    same = λ e a o.
        let room = had_room 41 (length e.queue) e.areas.queue e.overflow o in
        let more : length e.queue + 1 ≤ B.queue = omega (arith, room, larger.queue, ap (λ (x : Areas). x.queue) a) in
        ap (λ (x : Option ℕ). record {
          cells = e.cells;
          queue = e.queue ++ i ∷ [];
          runs = e.runs;
          made = e.made;
          trace =
              e.trace;
          unknown = e.unknown;
          overflow = x;
          areas = B;
          start = e.start;
        })
        (fresh 41 (length e.queue) B.queue more);
  }

  s_append : (t : Trace) → Same (append t)
  unfolding append
  s_append t = record {
    keeps = λ e a. a;
    stays = λ e o. sticky 42 (length e.trace) e.areas.records e.overflow o;
    same = λ e a o.
        let room = had_room 42 (length e.trace) e.areas.records e.overflow o in
        let more : length e.trace + 1 ≤ B.records =
        omega (arith, room, larger.records, ap (λ (x : Areas). x.records) a) in
        ap (λ (x : Option ℕ). record {
          cells = e.cells;
          queue = e.queue;
          runs = e.runs;
          made = e.made;
          trace =
              e.trace ++ t ∷ [];
          unknown = e.unknown;
          overflow = x;
          areas = B;
          start = e.start;
        })
        (fresh 42 (length e.trace) B.records more);
  }

  s_run : (r : Run) → Same (add_run r)
  unfolding add_run
  s_run r = record {
    keeps = λ e a. a;
    stays = λ e o. sticky 43 (length e.runs) e.areas.runs e.overflow o;
    same = λ e a o.
        let room = had_room 43 (length e.runs) e.areas.runs e.overflow o in
        let more : length e.runs + 1 ≤ B.runs = omega (arith, room, larger.runs, ap (λ (x : Areas). x.runs) a) in
        ap (λ (x : Option ℕ). record {
          cells = e.cells;
          queue = e.queue;
          runs = e.runs ++ r ∷ [];
          made =
              e.made ++ r.key.rule ∷ [];
          trace = e.trace;
          unknown = e.unknown;
          overflow = x;
          areas = B;
          start =
              e.start;
        }) (fresh 43 (length e.runs) B.runs more);
  }

  -- ---- the engine's steps

  s_adds : (l : List Item) → Same (adds l)
  unfolding adds through
  s_adds [] = idle
  s_adds (i ∷ l) = s_add i then s_adds l

  s_store : (r : Run) → Same (store r)
  unfolding store
  s_store r = with (λ e. each (in_place r) e.runs) (λ e. refl) with_runs s_runs

  module _ (now : ℕ) where
    s_log : (k : Kind) (id : Option Text) (s : Option Source) (d : Option Change) → Same (log now k id s d)
    unfolding log
    s_log k id s d = s_append _

    s_update : (x v : Text) (id : Option Text) (src : Option Source) (k : Kind) → Same (update now x v id src k)
    unfolding update
    s_update x v id src k =
        with (λ e. e.cells) (λ e. refl)
        (λ (c : List Cell) e.
        e
        ▸ with_cells (put x v 1 c)
        ▸ adds (expiry_of now (cell_of x (put x v 1 c)))
        ▸ log now k id src (some (record { entity = x; before = value_of x c; after = v }))
        ▸ adds (change_of now x (value_of x c) v))
        (λ c. s_cells _ then s_adds _ then s_log k id src _ then s_adds _)

    s_let_go : (r : Run) → Same (let_go now r)
    unfolding let_go
    s_let_go r = s_store _ then s_add _

    s_release : (id : Text) → Same (release now id)
    unfolding release
    s_release id = with (λ e. find (queued_for id) e.runs) (λ e. refl) (if_some (let_go now)) (maybe (let_go now) s_let_go)

    s_finish : (r : Run) → Same (finish now r)
    unfolding finish log_rule
    s_finish r =
        with (λ e. keep (other_run r.key) e.runs) (λ e. refl) with_runs s_runs
        then s_log _ _ _ _
        then s_release r.key.rule

    s_wake : (x from to : Text) → Same (wake now x from to)
    unfolding wake
    s_wake x from to =
        with (λ e. e.runs) (λ e. refl)
        (λ (l : List Run) e. e ▸ with_runs (each (woken x from to) l)
        ▸ adds (each (next_step now) (keep (awaits x from to) l)))
        (λ l. s_runs _ then s_adds _)

    s_begin : (r : Automation) (later : Bool) → Same (begin now r later)
    unfolding begin log_rule
    s_begin r later =
        with (λ e. fresh_run r later e.made) (λ e. refl)
        (λ (run : Run) e.
        e
        ▸ add_run run
        ▸ log now (if later then Kind.queued run.number else Kind.start run.number) (some r.id) none none
        ▸ adds (if later then [] else next_step now run ∷ []))
        (λ run. s_run run then s_log _ _ _ _ then s_adds _)

    s_carry : (d : Decision) (r : Automation) → Same (carry_out now d r)
    unfolding carry_out log_rule
    s_carry already_running r = s_log _ _ _ _
    s_carry max_reached r = s_log _ _ _ _
    s_carry start r = s_begin r false
    s_carry stop_and_start r =
        with (λ e. keep (of_other_rule r.id) e.runs) (λ e. refl) with_runs s_runs then s_log _ _ _ _
        then s_begin r false
    s_carry wait_in_line r = s_begin r true

    s_admit : (v : Truth) (r : Automation) → Same (admit now v r)
    unfolding admit
    s_admit Yes r = go r.notes
      where
        go : (l : List Text) → Same (λ e. elim l [
          | [] ↦ carry_out now (decide r.mode r.max (tally (of_rule r.id) e.runs)) r e
          | n ∷ k ↦ e
        ])
        go [] = with (λ e. decide r.mode r.max (tally (of_rule r.id) e.runs)) (λ e. refl)
            (λ d. carry_out now d r) (λ d. s_carry d r)
        go (n ∷ k) = idle
    s_admit No r = idle
    s_admit Unknown r = s_uncertain _

    s_offer : (x from to : Text) (r : Automation) → Same (offer now x from to r)
    unfolding offer
    s_offer x from to r =
        with (λ e. evaluate_all (moment now e) r.conditions e.cells) (λ e. refl)
        (λ (v : Truth) e. if any (matches x from to) r.triggers
        then (e ▸ log now (Kind.trigger v) (some r.id) (some r.source) none ▸ admit now v r) else e)
        (λ v. either (any (matches x from to) r.triggers) (s_log _ _ _ _ then s_admit v r) idle)

    s_offers : (x from to : Text) (l : List Automation) → Same (through (offer now x from to) l)
    unfolding through
    s_offers x from to [] = idle
    s_offers x from to (r ∷ l) = s_offer x from to r then s_offers x from to l

    s_tested : (v : Truth) (r : Run) → Same (tested now v r)
    unfolding tested
    s_tested Yes r = s_add _
    s_tested No r = s_finish r
    s_tested Unknown r = s_uncertain _ then s_finish r

    s_chosen : (o : Option Actions) (src : Source) (r : Run) → Same (chosen now o src r)
    unfolding chosen log_action
    s_chosen none src r = s_uncertain _ then s_finish r
    s_chosen (some l) src r = s_store _ then s_log _ _ _ _ then s_add _

    s_flip : (x : Text) (src : Source) (r : Run) → Same (flip now x src r)
    unfolding flip write
    s_flip x src r =
        with (λ e. value_of x e.cells) (λ e. refl)
        (λ (old : Text) e.
        if undecided old then uncertain (toggle_of_unknown r.key.rule) e
        else update now x (toggled old) (some r.key.rule) (some src) Kind.action e)
        (λ old. either (undecided old) (s_uncertain _) (s_update x (toggled old) _ _ Kind.action))

    s_begin_wait : (t : Trigger) (n : ℕ) (c : Bool) (src : Source) (r : Run) → Same (begin_wait now t n c src r)
    unfolding begin_wait log_action
    s_begin_wait t n c src r = either (absent t.note) (s_store _ then s_add _ then s_log _ _ _ _)
        (s_uncertain _ then s_finish r)

    s_perform : (g : Effect) (src : Source) (r : Run) → Same (perform now g src r)
    unfolding perform write log_action go_on_after
    s_perform (Effect.set x v) src r = s_update x v _ _ Kind.action then s_add _
    s_perform (toggle x) src r = s_flip x src r then s_add _
    s_perform (delay n) src r = s_log _ _ _ _ then s_add _
    s_perform (condition p) src r =
        with (λ e. evaluate (moment now e) p e.cells) (λ e. refl)
        (λ (v : Truth) e. e ▸ log now (Kind.condition v) (some r.key.rule) (some src) none ▸ tested now v r)
        (λ v. s_log _ _ _ _ then s_tested v r)
    s_perform (choose bs d) src r =
        with (λ e. select (moment now e) bs d e.cells) (λ e. refl) (λ (o : Option Actions). chosen now o src r)
        (λ o. s_chosen o src r)
    s_perform (wait t n c) src r = s_begin_wait t n c src r
    s_perform (Effect.unknown reason) src r = s_uncertain reason then s_log _ _ _ _ then s_finish r

    s_go_on : (l : Actions) (r : Run) → Same (go_on now l r)
    unfolding go_on
    s_go_on done r = s_finish r
    s_go_on (act src g rest) r = s_store _ then s_perform g src (left rest r)

    s_step : (r : Run) → Same (step now r)
    unfolding step
    s_step r = either (r.queued || not (absent r.waiting)) idle (s_go_on r.actions r)

    s_resume : (k : Key) → Same (resume now k)
    unfolding resume
    s_resume k = with (λ e. find (same_run k) e.runs) (λ e. refl) (if_some (step now)) (maybe (step now) s_step)

    s_over : (w : Waiting) (r : Run) → Same (wait_over now w r)
    unfolding wait_over log_action
    s_over w r =
        either (eqb w.deadline now)
        (s_log _ _ _ _ then either w.continue (s_store _ then s_add _) (s_finish r))
        idle

    s_end_wait : (r : Run) → Same (end_wait now r)
    unfolding end_wait
    s_end_wait r = maybe (λ w. wait_over now w r) (λ w. s_over w r) r.waiting

    s_time_out : (k : Key) → Same (time_out now k)
    unfolding time_out
    s_time_out k = with (λ e. find (same_run k) e.runs) (λ e. refl) (if_some (end_wait now))
        (maybe (end_wait now) s_end_wait)

    s_expire : (n : ℕ) (c : Cell) → Same (expire now n c)
    unfolding expire
    s_expire n c =
        either (eqb c.version n && not (eq_t c.value (text "unknown")))
        (with (λ e. put c.name (text "unknown") 0 e.cells) (λ e. refl) with_cells s_cells then s_log _ _ _ _
        then s_add _)
        idle

    s_stale : (x : Text) (n : ℕ) → Same (go_stale now x n)
    unfolding go_stale
    s_stale x n = with (λ e. cell_of x e.cells) (λ e. refl) (if_some (expire now n)) (maybe (expire now n) (s_expire n))

    s_drop : Same (drop_runs now)
    unfolding drop_runs
    s_drop = s_runs [] then s_log _ _ _ _

    s_process : (rules : List Automation) (w : Work) → Same (process now rules w)
    unfolding process trigger
    s_process rules (Work.external (Input.set x v)) = s_update x v none none Kind.external
    s_process rules (Work.external Input.restart) = s_drop
    s_process rules (Work.external reload) = s_drop
    s_process rules (Work.changed x from to) = s_wake x from to then s_offers x from to rules
    s_process rules (Work.resume k) = s_resume k
    s_process rules (Work.timeout k) = s_time_out k
    s_process rules (Work.stale x n) = s_stale x n

  -- ---- the loop

  abbrev wide_end : Ended → Ended
  wide_end d = record { engine = wide d.engine; steps = d.steps; incomplete = d.incomplete }

  record SameEnd (f : Engine → Ended) : Type 0 where
    stays : (e : Engine) → (f e).engine.overflow ≡ none → e.overflow ≡ none
    same : (e : Engine) → e.areas ≡ A → (f e).engine.overflow ≡ none → f (wide e) ≡ wide_end (f e)

  -- the loop looks at queue and records only
  looks : (h : ℕ) (e : Engine) (o : Option (Item × List Item)) → next_of h (wide e) o ≡ next_of h e o
  unfolding next_of
  looks h e none = refl
  looks h e (some (i, l)) = refl

  module _ (rules : List Automation) (h : ℕ) where
    turn : (i : Item) (l : List Item) → Same (λ e. process i.at rules i.work (with_queue l e))
    turn i l = s_queue l then s_process i.at rules i.work

    s_loop : (left n : ℕ) → SameEnd (loop rules h left n)
    unfolding loop
    s_loop zero n = record {
      stays = λ e. by_stays e (next_of h e (pop e.queue));
      same = λ e a. by_same e (next_of h e (pop e.queue)) (looks h e (pop e.queue));
    }
      where
        last : Engine → Next → Ended
        last e x = elim x [
          | stop ↦ record { engine = e; steps = n; incomplete = [] }
          | exhausted ↦ record { engine = e; steps = n; incomplete = space_spent ∷ [] }
          | take i l ↦ record { engine = e; steps = n; incomplete = steps_spent ∷ [] }
        ]

        by_stays : (e : Engine) (x : Next) → (last e x).engine.overflow ≡ none → e.overflow ≡ none
        by_stays e stop o = o
        by_stays e exhausted o = o
        by_stays e (take i l) o = o

        by_same : (e : Engine) (x : Next) {y : Next} → y ≡ x → (last e x).engine.overflow ≡ none →
            last (wide e) y ≡ wide_end (last e x)
        by_same e stop z o = ap (last (wide e)) z
        by_same e exhausted z o = ap (last (wide e)) z
        by_same e (take i l) z o = ap (last (wide e)) z
    s_loop (suc left) n = go (s_loop left (n + 1))
      where
        next : Engine → Next → Ended
        next e x = elim x [
          | stop ↦ record { engine = e; steps = n; incomplete = [] }
          | exhausted ↦ record { engine = e; steps = n; incomplete = space_spent ∷ [] }
          | take i l ↦ loop rules h left (n + 1) (e ▸ with_queue l ▸ process i.at rules i.work)
        ]

        by_stays : SameEnd (loop rules h left (n + 1)) → (e : Engine) (x : Next) → (next e x).engine.overflow ≡ none →
            e.overflow ≡ none
        by_stays s e stop o = o
        by_stays s e exhausted o = o
        by_stays s e (take i l) o = (turn i l).stays e (s.stays (process i.at rules i.work (with_queue l e)) o)

        by_same : SameEnd (loop rules h left (n + 1)) → (e : Engine) → e.areas ≡ A → (x : Next) →
            (next e x).engine.overflow ≡ none →
            next (wide e) x ≡ wide_end (next e x)
        by_same s e a stop o = refl
        by_same s e a exhausted o = refl
        by_same s e a (take i l) o =
            let f = process i.at rules i.work (with_queue l e) in
            ap (loop rules h left (n + 1)) ((turn i l).same e a (s.stays f o)) ∙ s.same f ((turn i l).keeps e a) o

        go : SameEnd (loop rules h left (n + 1)) → SameEnd (λ e. next e (next_of h e (pop e.queue)))
        go s = record {
          stays = λ e o. by_stays s e (next_of h e (pop e.queue)) o;
          same = λ e a o. ap (next (wide e)) (looks h e (pop e.queue)) ∙ by_same s e a (next_of h e (pop e.queue)) o;
        }

    -- ---- the end and the beginning

    s_last : (l : List Text) → Same (last_record h l)
    unfolding last_record
    s_last [] = s_log h _ _ _ _
    s_last (t ∷ l) = idle

  at_end : (h : ℕ) (d : Ended) → d.engine.areas ≡ A → (closed h d).engine.overflow ≡ none →
      closed h (wide_end d) ≡ wide_end (closed h d)
  unfolding closed
  at_end h d a o =
      let l = d.incomplete ++ left_over d.engine.runs in
      ap (λ (x : Engine). record { engine = x; steps = d.steps; incomplete = l }) ((s_last [] h l).same d.engine a o)

  -- what the loop keeps of the areas' sizes
  loop_keeps : (rules : List Automation) (h left n : ℕ) (e : Engine) → e.areas ≡ A →
      (loop rules h left n e).engine.areas ≡ A
  unfolding loop
  loop_keeps rules h zero n e a = by (next_of h e (pop e.queue))
    where
      by : (x : Next) → (◌▸◌ {A = Ended} (elim x [
        | stop ↦ record { engine = e; steps = n; incomplete = [] }
        | exhausted ↦ record { engine = e; steps = n; incomplete = space_spent ∷ [] }
        | take i l ↦ record { engine = e; steps = n; incomplete = steps_spent ∷ [] }
      ]) (λ (d : Ended). d.engine)).areas ≡ A
      by stop = a
      by exhausted = a
      by (take i l) = a
  loop_keeps rules h (suc left) n e a = by (next_of h e (pop e.queue)) (loop_keeps rules h left (n + 1))
    where
      by : (x : Next) → ((f : Engine) → f.areas ≡ A → (loop rules h left (n + 1) f).engine.areas ≡ A) →
          (◌▸◌ {A = Ended} (elim x [
            | stop ↦ record { engine = e; steps = n; incomplete = [] }
            | exhausted ↦ record { engine = e; steps = n; incomplete = space_spent ∷ [] }
            | take i l ↦ loop rules h left (n + 1) (e ▸ with_queue l ▸ process i.at rules i.work)
          ]) (λ (d : Ended). d.engine)).areas ≡ A
      by stop k = a
      by exhausted k = a
      by (take i l) k = k _ ((turn rules h i l).keeps e a)

  module _ (m : Model) (cells : List Cell) (events : List Event) where
    abbrev rules : List Automation
    rules = m.rules

    abbrev horizon : ℕ
    horizon = m.scenario.limits.horizon

    abbrev empty : Engine
    empty = record {
      cells = cells;
      queue = [];
      runs = [];
      made = [];
      trace = [];
      unknown = unsupported rules;
      overflow = none;
      areas = A;
      start = m.start;
    }

    s_begun : Same (λ e. e ▸ log 0 Kind.initial none none none ▸ adds (each event_item events)
        ▸ adds (flat (expiry 0) cells))
    s_begun = s_log 0 _ _ _ _ then s_adds _ then s_adds _

    abbrev first : Engine
    first = begun A m.start cells (unsupported rules) events

    abbrev looped : Ended
    looped = loop rules horizon m.scenario.limits.max_steps 0 first

    begun_wide : first.overflow ≡ none → begun B m.start cells (unsupported rules) events ≡ wide first
    unfolding begun
    begun_wide o = s_begun.same empty refl o

    first_sized : first.areas ≡ A
    unfolding begun
    first_sized = s_begun.keeps empty refl

    loop_sized : looped.engine.areas ≡ A
    loop_sized = loop_keeps rules horizon m.scenario.limits.max_steps 0 first first_sized

    -- the end's overflow tells of the loop's
    closed_stays : (closed horizon looped).engine.overflow ≡ none → looped.engine.overflow ≡ none
    unfolding closed
    closed_stays o = (s_last rules horizon _).stays looped.engine o

    pub ended_wide : (ended A m cells events).engine.overflow ≡ none →
        ended B m cells events ≡ wide_end (ended A m cells events)
    unfolding ended
    ended_wide o =
        let s = s_loop rules horizon m.scenario.limits.max_steps 0 in
        let q = closed_stays o in
        let p = s.stays first q in
        ap (λ (e : Engine). closed horizon (loop rules horizon m.scenario.limits.max_steps 0 e)) (begun_wide p)
        ∙ ap (closed horizon) (s.same first first_sized q)
        ∙ at_end horizon looped loop_sized o

-- ---- a simulation

full_or_not : {S : Type 0} (o : Option ℕ) (x s : S) → unless_full o x ≡ answer s → (o ≡ none) × (x ≡ s)
unfolding unless_full
full_or_not none x s e = (refl, answer_eq e)
full_or_not (some n) x s e = absurd (refused_answer e)

pub same_in_larger : SameInLarger
unfolding simulated
same_in_larger a b larger m cells events s e =
    let d = ended a m cells events in
    let x = full_or_not d.engine.overflow (outcome m d) s e in
    let w = ended_wide a b larger m cells events x.0 in
    ap (λ (y : Ended). unless_full y.engine.overflow (outcome m y)) w ∙ unfold unless_full outcome in
    ap answer (unfold outcome in x.1)
