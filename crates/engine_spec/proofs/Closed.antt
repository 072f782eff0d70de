-- What every primitive change of the engine keeps, each of its steps and a whole simulation keep: one law for facts that
-- hold throughout.
-- With it: if no area overflowed, the records fit the record area.
use Prim.Native.Nat.{ℕ, suc, ◌+◌, ◌≤◌, zero}
use mathlib.Core.Path.{◌≡◌, refl, ap, subst, sym}
use mathlib.Core.Bool.{Bool, true, false, not, ◌&&◌, ◌||◌}
use mathlib.Core.List.{List, [], ◌∷◌}
use mathlib.Core.Option.{Option, none, some}
use native.Mathlib.Omega.{arith}
use lib.Dec.{eqb, leb}
use lib.ListN.{length, length-append}
use Rattle.texts.specs.Lists.{◌▸◌, absent, any, find, tally, through}
use Rattle.texts.specs.Texts.{Text, text, eq_t}
use Rattle.model_spec.specs.Validate.{undecided}
use Rattle.model_spec.specs.Model.{
  Source,
  Moment,
  Effect,
  toggle,
  delay,
  condition,
  choose,
  wait,
  Actions,
  done,
  act,
  Automation,
  Input,
  reload,
  Event,
  Model,
}
use Rattle.engine_spec.specs.Cells.{Cell, cell_of, value_of}
use Rattle.engine_spec.specs.Kleene.{Truth, Yes, No, Unknown}
use Rattle.engine_spec.specs.Truth.{matches}
use Rattle.engine_spec.specs.Unsupported.{unsupported}
use Rattle.engine_spec.specs.Reasons.{space_spent, steps_spent}
use Rattle.engine_spec.specs.Simulate.{Simulation, ended, outcome, unless_full, simulated}
use Rattle.model_spec.specs.Answer.{Answer, answer, refused}
use Rattle.engine_spec.specs.Modes.{
  Decision,
  already_running,
  max_reached,
  start,
  stop_and_start,
  wait_in_line,
  decide,
}
use Rattle.engine_spec.specs.Records.{Key, Waiting, Run, Work, Item, Kind, Change, Trace, Areas, Engine}
use Rattle.engine_spec.specs.Changes.{
  if_some,
  noted,
  with_cells,
  add,
  append,
  with_runs,
  add_run,
  uncertain,
  adds,
  with_queue,
}
use Rattle.engine_spec.specs.Engine.{
  same_run,
  of_rule,
  queued_for,
  store,
  left,
  log,
  log_rule,
  log_action,
  update,
  let_go,
  release,
  finish,
  wake,
  begin,
  carry_out,
  admit,
  offer,
  trigger,
  go_on_after,
  write,
  flip,
  tested,
  chosen,
  begin_wait,
  perform,
  go_on,
  step,
  resume,
  wait_over,
  end_wait,
  time_out,
  expire,
  go_stale,
  drop_runs,
  process,
  pop,
  Next,
  stop,
  exhausted,
  take,
  next_of,
  Ended,
  loop,
  begun,
  last_record,
  closed,
}
use Rattle.engine_spec.proofs.Lists.{Case, is_true, is_false, case, if_prop, leb_no, none_some}
use Rattle.engine_spec.proofs.Distinct.{answer_eq, refused_answer}

-- every primitive change keeps P
pub record Closed (P : Engine → Type 0) : Type 0 where
  pub on_cells : (l : List Cell) (e : Engine) → P e → P (with_cells l e)
  pub on_add : (i : Item) (e : Engine) → P e → P (add i e)
  pub on_append : (t : Trace) (e : Engine) → P e → P (append t e)
  pub on_runs : (l : List Run) (e : Engine) → P e → P (with_runs l e)
  pub on_run : (r : Run) (e : Engine) → P e → P (add_run r e)
  pub on_uncertain : (t : Text) (e : Engine) → P e → P (uncertain t e)
  pub on_queue : (l : List Item) (e : Engine) → P e → P (with_queue l e)

module _ (P : Engine → Type 0) (c : Closed P) where
  pub c_adds : (l : List Item) (e : Engine) → P e → P (adds l e)
  unfolding adds through
  c_adds [] e p = p
  c_adds (i ∷ l) e p = c_adds l (add i e) (c.on_add i e p)

  pub c_store : (r : Run) (e : Engine) → P e → P (store r e)
  unfolding store
  c_store r e p = c.on_runs _ e p

  module _ (now : ℕ) where
    pub c_log : (k : Kind) (id : Option Text) (s : Option Source) (d : Option Change) (e : Engine) → P e
        → P (log now k id s d e)
    unfolding log
    c_log k id s d e p = c.on_append _ e p

    c_update : (x v : Text) (id : Option Text) (src : Option Source) (k : Kind) (e : Engine) → P e
        → P (update now x v id src k e)
    unfolding update
    c_update x v id src k e p = c_adds _ _ (c_log k id src _ _ (c_adds _ _ (c.on_cells _ e p)))

    c_some : {A : Type 0} (f : A → Engine → Engine) → ((a : A) (e : Engine) → P e → P (f a e))
        → (o : Option A) (e : Engine) → P e → P (if_some f o e)
    unfolding if_some
    c_some f h none e p = p
    c_some f h (some a) e p = h a e p

    pub c_release : (id : Text) (e : Engine) → P e → P (release now id e)
    unfolding release let_go
    c_release id e p = c_some (let_go now) (λ r e p. c.on_add _ _ (c_store _ e p)) (find (queued_for id) e.runs) e p

    pub c_finish : (r : Run) (e : Engine) → P e → P (finish now r e)
    unfolding finish log_rule
    c_finish r e p = c_release _ _ (c_log _ _ _ _ _ (c.on_runs _ e p))

    c_wake : (x from to : Text) (e : Engine) → P e → P (wake now x from to e)
    unfolding wake
    c_wake x from to e p = c_adds _ _ (c.on_runs _ e p)

    pub c_begin : (r : Automation) (later : Bool) (e : Engine) → P e → P (begin now r later e)
    unfolding begin log_rule
    c_begin r later e p = c_adds _ _ (c_log _ _ _ _ _ (c.on_run _ e p))

    c_carry : (d : Decision) (r : Automation) (e : Engine) → P e → P (carry_out now d r e)
    unfolding carry_out log_rule
    c_carry already_running r e p = c_log _ _ _ _ e p
    c_carry max_reached r e p = c_log _ _ _ _ e p
    c_carry start r e p = c_begin r false e p
    c_carry stop_and_start r e p = c_begin r false _ (c_log _ _ _ _ _ (c.on_runs _ e p))
    c_carry wait_in_line r e p = c_begin r true e p

    pub c_admit : (v : Truth) (r : Automation) (e : Engine) → P e → P (admit now v r e)
    unfolding admit
    c_admit Yes r e p = go r.notes
      where
        go : (l : List Text)
            → P (elim l [
              | [] ↦ carry_out now (decide r.mode r.max (tally (of_rule r.id) e.runs)) r e
              | x ∷
                  y ↦ e
            ])
        go [] = c_carry _ r e p
        go (x ∷ y) = p
    c_admit No r e p = p
    c_admit Unknown r e p = c.on_uncertain _ e p

    pub c_offers : (x from to : Text) (l : List Automation) (e : Engine) → P e → P (through (offer now x from to) l e)
    unfolding through offer
    c_offers x from to [] e p = p
    c_offers x from to (r ∷ l) e p =
        c_offers x from to l _ (if_prop P (any (matches x from to) r.triggers)
        (λ _. c_admit _ r _ (c_log _ _ _ _ e p)) (λ _. p))

    pub c_tested : (v : Truth) (r : Run) (e : Engine) → P e → P (tested now v r e)
    unfolding tested
    c_tested Yes r e p = c.on_add _ e p
    c_tested No r e p = c_finish r e p
    c_tested Unknown r e p = c_finish r _ (c.on_uncertain _ e p)

    c_chosen : (o : Option Actions) (src : Source) (r : Run) (e : Engine) → P e → P (chosen now o src r e)
    unfolding chosen log_action
    c_chosen none src r e p = c_finish r _ (c.on_uncertain _ e p)
    c_chosen (some l) src r e p = c.on_add _ _ (c_log _ _ _ _ _ (c_store _ e p))

    c_perform : (g : Effect) (src : Source) (r : Run) (e : Engine) → P e → P (perform now g src r e)
    unfolding perform write log_action go_on_after
    c_perform (Effect.set x v) src r e p = c.on_add _ _ (c_update x v _ _ Kind.action e p)
    c_perform (toggle x) src r e p = c.on_add _ _ (unfold flip write in
        (if_prop P (undecided (value_of x e.cells)) (λ _. c.on_uncertain _ e p)
        (λ _. c_update x _ _ _ Kind.action e p)))
    c_perform (delay m) src r e p = c.on_add _ _ (c_log _ _ _ _ e p)
    c_perform (condition q) src r e p = c_tested _ r _ (c_log _ _ _ _ e p)
    c_perform (choose bs d) src r e p = c_chosen _ src r e p
    c_perform (wait u s k) src r e p = unfold begin_wait log_action in
        (if_prop P (absent u.note) (λ _. c_log _ _ _ _ _ (c.on_add _ _ (c_store _ e p)))
        (λ _. c_finish r _ (c.on_uncertain _ e p)))
    c_perform (Effect.unknown reason) src r e p = c_finish r _ (c_log _ _ _ _ _ (c.on_uncertain reason e p))

    c_go_on : (l : Actions) (r : Run) (e : Engine) → P e → P (go_on now l r e)
    unfolding go_on
    c_go_on done r e p = c_finish r e p
    c_go_on (act src g rest) r e p = c_perform g src (left rest r) _ (c_store _ e p)

    c_resume : (k : Key) (e : Engine) → P e → P (resume now k e)
    unfolding resume step
    c_resume k e p =
        c_some (step now) (λ r e p. if_prop P (r.queued || not (absent r.waiting)) (λ _. p)
        (λ _. c_go_on r.actions r e p))
        (find (same_run k) e.runs) e p

    c_over : (w : Waiting) (r : Run) (e : Engine) → P e → P (wait_over now w r e)
    unfolding wait_over log_action
    c_over w r e p =
        if_prop P (eqb w.deadline now)
        (λ _. if_prop P w.continue (λ _. c.on_add _ _ (c_store _ _ (c_log _ _ _ _ e p)))
        (λ _. c_finish r _ (c_log _ _ _ _ e p)))
        (λ _. p)

    c_time_out : (k : Key) (e : Engine) → P e → P (time_out now k e)
    unfolding time_out end_wait
    c_time_out k e p =
        c_some (end_wait now) (λ r e p. c_some (λ w. wait_over now w r) (λ w e p. c_over w r e p) r.waiting e p)
        (find (same_run k) e.runs) e p

    c_stale : (x : Text) (n : ℕ) (e : Engine) → P e → P (go_stale now x n e)
    unfolding go_stale expire
    c_stale x n e p =
        c_some (expire now n)
        (λ d e p. if_prop P (eqb d.version n && not (eq_t d.value (text "unknown")))
        (λ _. c.on_add _ _ (c_log _ _ _ _ _ (c.on_cells _ e p))) (λ _. p))
        (cell_of x e.cells) e p

    c_drop : (e : Engine) → P e → P (drop_runs now e)
    unfolding drop_runs
    c_drop e p = c_log _ _ _ _ _ (c.on_runs [] e p)

    pub process_closed : (rules : List Automation) (w : Work) (e : Engine) → P e → P (process now rules w e)
    unfolding process trigger
    process_closed rules (Work.external (Input.set x v)) e p = c_update x v none none Kind.external e p
    process_closed rules (Work.external Input.restart) e p = c_drop e p
    process_closed rules (Work.external reload) e p = c_drop e p
    process_closed rules (Work.changed x from to) e p = c_offers x from to rules _ (c_wake x from to e p)
    process_closed rules (Work.resume j) e p = c_resume j e p
    process_closed rules (Work.timeout j) e p = c_time_out j e p
    process_closed rules (Work.stale x n) e p = c_stale x n e p

  pub loop_closed : (rules : List Automation) (h left n : ℕ) (e : Engine) → P e → P (loop rules h left n e).engine
  unfolding loop
  loop_closed rules h zero n e p = go (next_of h e (pop e.queue))
    where
      go : (x : Next) → P (◌▸◌ {A = Ended} (elim x [
        | stop ↦ record { engine = e; steps = n; incomplete = [] }
        | exhausted ↦ record { engine = e; steps = n; incomplete = space_spent ∷ [] }
        | take i l ↦ record { engine = e; steps = n; incomplete = steps_spent ∷ [] }
      ]) (λ (d : Ended). d.engine))
      go stop = p
      go exhausted = p
      go (take i l) = p
  loop_closed rules h (suc m) n e p = go (next_of h e (pop e.queue)) (loop_closed rules h m (n + 1))
    where
      go : (x : Next) → ((s : Engine) → P s → P (loop rules h m (n + 1) s).engine)
          → P (◌▸◌ {A = Ended} (elim x [
            | stop ↦ record { engine = e; steps = n; incomplete = [] }
            | exhausted ↦ record { engine = e; steps = n; incomplete = space_spent ∷ [] }
            | take i l ↦ loop rules h m (n + 1) (e ▸ with_queue l ▸ process i.at rules i.work)
          ]) (λ (d : Ended). d.engine))
      go stop g = p
      go exhausted g = p
      go (take i l) g = g _ (process_closed i.at rules i.work _ (c.on_queue l e p))

  pub end_closed : (h : ℕ) (d : Ended) → P d.engine → P (closed h d).engine
  unfolding closed
  end_closed h d p = go _
    where
      go : (l : List Text) → P (last_record h l d.engine)
      go [] = unfold last_record in (c_log h Kind.horizon none none none d.engine p)
      go (t ∷ l) = unfold last_record in p

  pub begun_closed : (areas : Areas) (origin : Moment) (cells : List Cell) (notes : List Text) (events : List Event)
      → P (record {
        cells = cells;
        queue = [];
        runs = [];
        made = [];
        trace = [];
        unknown = notes;
        overflow = none;
        areas = areas;
        start = origin;
      }) → P (begun areas origin cells notes events)
  unfolding begun
  begun_closed areas origin cells notes events p = c_adds _ _ (c_adds _ _ (c_log 0 _ _ _ _ _ p))

  -- of a whole simulation
  pub ended_closed : (areas : Areas) (m : Model) (cells : List Cell) (events : List Event)
      → P (record {
        cells = cells;
        queue = [];
        runs = [];
        made = [];
        trace = [];
        unknown = unsupported m.rules;
        overflow = none;
        areas = areas;
        start = m.start;
      }) → P (ended areas m cells events).engine
  unfolding ended
  ended_closed areas m cells events p =
      end_closed _ _ (loop_closed m.rules _ _ _ _ (begun_closed areas m.start cells (unsupported m.rules) events p))

-- ---- records

-- no overflow says that the records fit
record Held (areas : Areas) (e : Engine) : Type 0 where
  same : e.areas ≡ areas
  fit : e.overflow ≡ none → length e.trace ≤ areas.records

-- a note stays
pub sticky : (n used size : ℕ) (o : Option ℕ) → noted n used size o ≡ none → o ≡ none
unfolding noted
sticky n used size none e = refl
sticky n used size (some m) e = e

pub had_room : (n used size : ℕ) (o : Option ℕ) → noted n used size o ≡ none → used + 1 ≤ size
unfolding noted
had_room n used size none e = go (case (leb size used))
  where
    go : Case (leb size used) → used + 1 ≤ size
    go (is_true a) = absurd (none_some (sym (rw a at e)))
    go (is_false a) = leb_no size used a
had_room n used size (some m) e = absurd (none_some (sym e))

held_closed : (areas : Areas) → Closed (Held areas)
unfolding with_cells add append with_runs add_run uncertain with_queue
held_closed areas = record {
  on_cells = λ l e h. record { same = h.same; fit = h.fit };
  on_add = λ i e h. record { same = h.same; fit = λ o. h.fit (sticky 41 _ _ e.overflow o) };
  on_append = λ t e h. record {
    same = h.same;
    fit = λ o.
        let r : length e.trace + 1 ≤ e.areas.records = had_room 42 (length e.trace) e.areas.records
        e.overflow o in
        omega (arith, length-append e.trace (t ∷ []), r, ap (λ (a : Areas). a.records) h.same);
  };
  on_runs = λ l e h. record { same = h.same; fit = h.fit };
  on_run = λ r e h. record { same = h.same; fit = λ o. h.fit (sticky 43 _ _ e.overflow o) };
  on_uncertain = λ t e h. record { same = h.same; fit = h.fit };
  on_queue = λ l e h. record { same = h.same; fit = h.fit };
}

-- a simulation that isn't refused has its records in the area
pub records_fit : (areas : Areas) (m : Model) (cells : List Cell) (events : List Event) (s : Simulation)
    → simulated areas m cells events ≡ answer s → length s.trace ≤ areas.records
unfolding simulated
records_fit areas m cells events s e = go (ended areas m cells events).engine.overflow refl e
  where
    held : Held areas (ended areas m cells events).engine
    held =
        ended_closed (Held areas) (held_closed areas) areas m cells events
        (record { same = refl; fit = λ _. omega arith })

    go : (o : Option ℕ) → (ended areas m cells events).engine.overflow ≡ o
        → unless_full o (outcome m (ended areas m cells events)) ≡ answer s → length s.trace ≤ areas.records
    go none z p =
        let q : answer (outcome m (ended areas m cells events)) ≡ answer s = unfold unless_full in p in
        subst (λ (x : Simulation). length x.trace ≤ areas.records) (answer_eq q) (unfold outcome in (held.fit z))
    go (some n) z p =
        let q : ◌≡◌ {A = Answer Simulation} (refused n) (answer s) = unfold unless_full in p in
        absurd (refused_answer q)
