-- Time: no work is due before now, the records' seconds never fall, the first record is a boundary, and boundaries
-- show no change. The loop keeps this, and a complete simulation's records have it (`tidy_loop`).
use Rattle.std.specs.Prelude.{if◌then◌else◌}
use Prim.Native.Nat.{ℕ, zero, suc, ◌+◌, ◌≤◌}
use mathlib.Core.Bool.{Bool, true, false, not, ◌&&◌, ◌||◌, false≢true}
use mathlib.Core.List.{List, [], ◌∷◌, ◌++◌}
use mathlib.Core.Option.{Option, none, some}
use mathlib.Core.Path.{◌≡◌, refl}
use native.Mathlib.Omega.{arith}
use lib.Dec.{eqb}
use Rattle.texts.specs.Lists.{◌▸◌, absent, any, keep, find, tally, each, through}
use Rattle.texts.specs.Texts.{Text, text, eq_t}
use Rattle.model_spec.specs.Validate.{undecided}
use Rattle.model_spec.specs.Model.{
  Source,
  Effect,
  toggle,
  delay,
  condition,
  choose,
  wait,
  Actions,
  done,
  act,
  Automation,
  Input,
  reload,
}
use Rattle.engine_spec.specs.Cells.{Cell, cell_of, value_of, put}
use Rattle.engine_spec.specs.Kleene.{Truth, Yes, No, Unknown}
use Rattle.engine_spec.specs.Truth.{evaluate, evaluate_all, matches}
use Rattle.engine_spec.specs.Modes.{Decision, already_running, max_reached, start, stop_and_start, wait_in_line, decide}
use Rattle.engine_spec.specs.Reasons.{unsupported_wait, space_spent, steps_spent}
use Rattle.engine_spec.specs.Records.{Key, Waiting, Run, Work, Item, Kind, Change, Trace, Engine}
use Rattle.engine_spec.specs.Changes.{if_some, with_cells, add, append, with_runs, add_run, uncertain, with_queue, adds}
use Rattle.engine_spec.specs.Engine.{
  same_run,
  of_rule,
  queued_for,
  store,
  left,
  waits,
  released,
  fresh_run,
  awaits,
  toggled,
  ◌then◌,
  select,
  moment,
  at_once,
  next_step,
  log,
  log_rule,
  log_action,
  expiry,
  expiry_of,
  change_of,
  update,
  let_go,
  release,
  finish,
  wake,
  begin,
  carry_out,
  admit,
  offer,
  trigger,
  go_on_after,
  write,
  flip,
  tested,
  chosen,
  begin_wait,
  perform,
  go_on,
  step,
  resume,
  wait_over,
  end_wait,
  time_out,
  expire,
  go_stale,
  drop_runs,
  process,
  Next,
  stop,
  exhausted,
  take,
  Ended,
  loop,
}
use Rattle.cone_engine.proofs.Base.{Every, every_end, if_prop, leb_le, le-leb, gt_leb}
use Rattle.cone_engine.proofs.Queue.{late, pop_least, pop_late, pop_rest}
use Rattle.cone_engine.proofs.View.{boundary}
use Rattle.cone_engine.proofs.Slice.{Goes, stops, spent, takes, goes}

-- seconds never fall, and end at the last
abbrev pub Rising : ℕ → List Trace → ℕ → Type 0
Rising a [] b = a ≤ b
Rising a (t ∷ l) b = (a ≤ t.at) × Rising t.at l b

unfoldable pub headed : List Trace → Bool
headed [] = false
headed (t ∷ l) = boundary t.kind

unfoldable pub fair : Trace → Bool
fair t = not (boundary t.kind) || absent t.change

pub rising_end : (a : ℕ) (l : List Trace) (b c : ℕ) (t : Trace) → Rising a l b → b ≤ t.at → t.at ≤ c
    → Rising a (l ++ t ∷ []) c
rising_end a [] b c t h p q = (omega arith, q)
rising_end a (x ∷ l) b c t h p q = (h.0, rising_end x.at l b c t h.1 p q)

pub rising_up : (a : ℕ) (l : List Trace) (b c : ℕ) → Rising a l b → b ≤ c → Rising a l c
rising_up a [] b c h p = omega arith
rising_up a (x ∷ l) b c h p = (h.0, rising_up x.at l b c h.1 p)

pub headed_end : (l : List Trace) (t : Trace) → headed l ≡ true → headed (l ++ t ∷ []) ≡ true
unfolding headed
headed_end [] t h = absurd (false≢true h)
headed_end (x ∷ l) t h = h

pub record Tidy (now : ℕ) (e : Engine) : Type 0 where
  pub due : Every (late now) e.queue
  pub told : Rising 0 e.trace now
  pub begins : headed e.trace ≡ true
  pub plain : Every fair e.trace

module _ (now : ℕ) where
  t_append : (t : Trace) (e : Engine) → t.at ≡ now → fair t ≡ true → Tidy now e → Tidy now (append t e)
  unfolding append
  t_append t e p q h = record {
    due = h.due;
    told = rising_end 0 e.trace now now t h.told (omega (arith, p)) (omega (arith, p));
    begins = headed_end e.trace t h.begins;
    plain = every_end fair e.trace t h.plain q;
  }

  t_log : (k : Kind) (id : Option Text) (s : Option Source) (c : Option Change) (e : Engine) → boundary k ≡ false
      → Tidy now e → Tidy now (log now k id s c e)
  unfolding log fair
  t_log k id s c e q h = t_append (record { at = now; kind = k; automation = id; source = s; change = c }) e refl (rw q) h

  t_rule : (k : Kind) (id : Text) (e : Engine) → boundary k ≡ false → Tidy now e → Tidy now (log_rule now k id e)
  unfolding log_rule
  t_rule k id e q h = t_log k (some id) none none e q h

  t_act : (k : Kind) (src : Source) (r : Run) (e : Engine) → boundary k ≡ false → Tidy now e
      → Tidy now (log_action now k src r e)
  unfolding log_action
  t_act k src r e q h = t_log k (some r.key.rule) (some src) none e q h

  t_add : (i : Item) (e : Engine) → now ≤ i.at → Tidy now e → Tidy now (add i e)
  unfolding add late
  t_add i e p h = record {
    due = every_end (late now) e.queue i h.due (le-leb now i.at p);
    told =
        h.told;
    begins = h.begins;
    plain = h.plain;
  }

  t_next : (r : Run) (e : Engine) → Tidy now e → Tidy now (add (next_step now r) e)
  unfolding next_step at_once
  t_next r e h = t_add (next_step now r) e (omega arith) h

  pub t_adds : (l : List Item) (e : Engine) → Every (late now) l → Tidy now e → Tidy now (adds l e)
  unfolding adds through late
  t_adds [] e p h = h
  t_adds (i ∷ l) e p h = t_adds l (add i e) p.1 (t_add i e (leb_le now i.at p.0) h)

  t_with_cells : (l : List Cell) (e : Engine) → Tidy now e → Tidy now (with_cells l e)
  unfolding with_cells
  t_with_cells l e h = record { due = h.due; told = h.told; begins = h.begins; plain = h.plain }

  t_with_runs : (l : List Run) (e : Engine) → Tidy now e → Tidy now (with_runs l e)
  unfolding with_runs
  t_with_runs l e h = record { due = h.due; told = h.told; begins = h.begins; plain = h.plain }

  t_add_run : (r : Run) (e : Engine) → Tidy now e → Tidy now (add_run r e)
  unfolding add_run
  t_add_run r e h = record { due = h.due; told = h.told; begins = h.begins; plain = h.plain }

  t_uncertain : (t : Text) (e : Engine) → Tidy now e → Tidy now (uncertain t e)
  unfolding uncertain
  t_uncertain t e h = record { due = h.due; told = h.told; begins = h.begins; plain = h.plain }

  t_store : (r : Run) (e : Engine) → Tidy now e → Tidy now (store r e)
  unfolding store
  t_store r e h = t_with_runs _ e h

  t_update : (x v : Text) (id : Option Text) (src : Option Source) (k : Kind) (e : Engine) → boundary k ≡ false
      → Tidy now e → Tidy now (update now x v id src k e)
  unfolding update
  t_update x v id src k e q h =
      t_adds (change_of now x (value_of x e.cells) v) _ (ch (eq_t (value_of x e.cells) v))
      (t_log k id src _ _ q (t_adds (expiry_of now (cell_of x (put x v 1 e.cells))) _
      (ex (cell_of x (put x v 1 e.cells))) (t_with_cells _ e h)))
    where
      one : (c : Cell) (o : Option ℕ)
          → Every (late now)
          (elim o [ none ↦ [] | some ttl ↦ record { at = now + ttl + 1; work = Work.stale c.name c.version } ∷ [] ])
      one c none = tt
      one c (some t) = unfold late in (le-leb now (now + t + 1) (omega arith), tt)

      ex : (o : Option Cell) → Every (late now) (expiry_of now o)
      ex none = unfold expiry_of in tt
      ex (some c) = unfold expiry_of expiry in (one c c.stale_after)

      ch : (b : Bool) → Every (late now) (change_of now x (value_of x e.cells) v)
      ch b = unfold change_of at_once late in
          (if_prop (Every (late now)) (eq_t (value_of x e.cells) v) {x = []} {y =
          record { at = now; work = Work.changed x (value_of x e.cells) v } ∷ []} tt (le-leb now now (omega arith), tt))

  t_release : (id : Text) (e : Engine) → Tidy now e → Tidy now (release now id e)
  unfolding release if_some let_go
  t_release id e h = go (find (queued_for id) e.runs)
    where
      go : (o : Option Run) → Tidy now (if_some (let_go now) o e)
      go none = h
      go (some r) = t_next r _ (t_store (released r) e h)

  t_finish : (r : Run) (e : Engine) → Tidy now e → Tidy now (finish now r e)
  unfolding finish boundary
  t_finish r e h = t_release r.key.rule _ (t_rule (Kind.complete r.number) r.key.rule _ refl (t_with_runs _ e h))

  steps_late : (l : List Run) → Every (late now) (each (next_step now) l)
  unfolding each next_step at_once late
  steps_late [] = tt
  steps_late (r ∷ l) = (le-leb now now (omega arith), steps_late l)

  t_wake : (x from to : Text) (e : Engine) → Tidy now e → Tidy now (wake now x from to e)
  unfolding wake
  t_wake x from to e h = t_adds _ _ (steps_late (keep (awaits x from to) e.runs)) (t_with_runs _ e h)

  t_begin : (r : Automation) (later : Bool) (e : Engine) → Tidy now e → Tidy now (begin now r later e)
  unfolding begin boundary
  t_begin r later e h =
      t_adds (if later then [] else next_step now (fresh_run r later e.made) ∷ []) _ (first later)
      (t_rule (if later then Kind.queued (fresh_run r later e.made).number
      else Kind.start (fresh_run r later e.made).number) r.id _ (kind later)
      (t_add_run (fresh_run r later e.made) e h))
    where
      kind : (b : Bool) → boundary
          (if b then Kind.queued (fresh_run r later e.made).number
          else Kind.start (fresh_run r later e.made).number) ≡ false
      kind true = refl
      kind false = refl

      first : (b : Bool) → Every (late now) (if b then [] else next_step now (fresh_run r later e.made) ∷ [])
      first true = tt
      first false = unfold next_step at_once late in (le-leb now now (omega arith), tt)

  t_carry : (d : Decision) (r : Automation) (e : Engine) → Tidy now e → Tidy now (carry_out now d r e)
  unfolding carry_out boundary
  t_carry already_running r e h = t_rule Kind.single_running r.id e refl h
  t_carry max_reached r e h = t_rule Kind.max_reached r.id e refl h
  t_carry start r e h = t_begin r false e h
  t_carry stop_and_start r e h = t_begin r false _ (t_rule Kind.cancel r.id _ refl (t_with_runs _ e h))
  t_carry wait_in_line r e h = t_begin r true e h

  t_admit : (t : Truth) (r : Automation) (e : Engine) → Tidy now e → Tidy now (admit now t r e)
  unfolding admit
  t_admit Yes r e h = go r.notes
    where
      go : (l : List Text) → Tidy now
          (elim l [ [] ↦ carry_out now (decide r.mode r.max (tally (of_rule r.id) e.runs)) r e | x ∷ y ↦ e ])
      go [] = t_carry _ r e h
      go (x ∷ y) = h
  t_admit No r e h = h
  t_admit Unknown r e h = t_uncertain _ e h

  t_offers : (x from to : Text) (l : List Automation) (e : Engine) → Tidy now e
      → Tidy now (through (offer now x from to) l e)
  unfolding through offer boundary
  t_offers x from to [] e h = h
  t_offers x from to (r ∷ l) e h =
      t_offers x from to l _
      (if_prop (Tidy now) (any (matches x from to) r.triggers)
      (t_admit (evaluate_all (moment now e) r.conditions e.cells) r _
      (t_log (Kind.trigger (evaluate_all (moment now e) r.conditions e.cells)) (some r.id) (some r.source) none e
      refl h)) h)

  t_write : (x v : Text) (src : Source) (r : Run) (e : Engine) → Tidy now e → Tidy now (write now x v src r e)
  unfolding write boundary
  t_write x v src r e h = t_update x v (some r.key.rule) (some src) Kind.action e refl h

  t_tested : (t : Truth) (r : Run) (e : Engine) → Tidy now e → Tidy now (tested now t r e)
  unfolding tested
  t_tested Yes r e h = t_next r e h
  t_tested No r e h = t_finish r e h
  t_tested Unknown r e h = t_finish r _ (t_uncertain _ e h)

  t_chosen : (o : Option Actions) (src : Source) (r : Run) (e : Engine) → Tidy now e → Tidy now (chosen now o src r e)
  unfolding chosen boundary
  t_chosen none src r e h = t_finish r _ (t_uncertain _ e h)
  t_chosen (some a) src r e h = t_next r _ (t_act Kind.choose src r _ refl (t_store _ e h))

  t_perform : (f : Effect) (src : Source) (r : Run) (e : Engine) → Tidy now e → Tidy now (perform now f src r e)
  unfolding perform flip go_on_after begin_wait boundary
  t_perform (Effect.set x v) src r e h = t_next r _ (t_write x v src r e h)
  t_perform (toggle x) src r e h =
      t_next r _ (if_prop (Tidy now) (undecided (value_of x e.cells)) (t_uncertain _ e h)
      (t_write x (toggled (value_of x e.cells)) src r e h))
  t_perform (delay m) src r e h = t_add (record { at = now + m; work = Work.resume r.key }) _ (omega arith)
      (t_act (Kind.delay m) src r e refl h)
  t_perform (condition p) src r e h =
      t_tested (evaluate (moment now e) p e.cells) r _
      (t_act (Kind.condition (evaluate (moment now e) p e.cells)) src r e refl h)
  t_perform (choose bs d) src r e h = t_chosen (select (moment now e) bs d e.cells) src r e h
  t_perform (wait t s c) src r e h =
      if_prop (Tidy now) (absent t.note)
      (t_act (Kind.wait s) src r _ refl
      (t_add (record { at = now + s; work = Work.timeout r.key }) _ (omega arith)
      (t_store (waits (some (record { trigger = t; deadline = now + s; continue = c; source = src })) r) e h)))
      (t_finish r _ (t_uncertain unsupported_wait e h))
  t_perform (Effect.unknown reason) src r e h =
      t_finish r _ (t_act (Kind.unknown reason) src r _ refl (t_uncertain reason e h))

  t_go_on : (l : Actions) (r : Run) (e : Engine) → Tidy now e → Tidy now (go_on now l r e)
  unfolding go_on
  t_go_on done r e h = t_finish r e h
  t_go_on (act src f rest) r e h = t_perform f src (left rest r) _ (t_store (left rest r) e h)

  t_resume : (k : Key) (e : Engine) → Tidy now e → Tidy now (resume now k e)
  unfolding resume if_some step
  t_resume k e h = go (find (same_run k) e.runs)
    where
      go : (o : Option Run) → Tidy now (if_some (step now) o e)
      go none = h
      go (some r) = if_prop (Tidy now) (r.queued || not (absent r.waiting)) h (t_go_on r.actions r e h)

  t_over : (w : Waiting) (r : Run) (e : Engine) → Tidy now e → Tidy now (wait_over now w r e)
  unfolding wait_over boundary
  t_over w r e h =
      let t : Tidy now (log_action now (Kind.timeout w.continue) w.source r e) =
      t_act (Kind.timeout w.continue) w.source r e refl h in
      if_prop (Tidy now) (eqb w.deadline now)
      (if_prop (Tidy now) w.continue (t_next r _ (t_store (waits none r) _ t)) (t_finish r _ t)) h

  t_time_out : (k : Key) (e : Engine) → Tidy now e → Tidy now (time_out now k e)
  unfolding time_out if_some end_wait
  t_time_out k e h = go (find (same_run k) e.runs)
    where
      go : (o : Option Run) → Tidy now (if_some (end_wait now) o e)
      go none = h
      go (some r) = by r.waiting
        where
          by : (w : Option Waiting) → Tidy now (if_some (λ w. wait_over now w r) w e)
          by none = h
          by (some w) = t_over w r e h

  t_stale : (x : Text) (n : ℕ) (e : Engine) → Tidy now e → Tidy now (go_stale now x n e)
  unfolding go_stale if_some
  t_stale x n e h = go (cell_of x e.cells)
    where
      go : (o : Option Cell) → Tidy now (if_some (expire now n) o e)
      go none = h
      go (some d) = unfold expire at_once boundary in
          (if_prop (Tidy now) (eqb d.version n && not (eq_t d.value (text "unknown")))
          (t_add (record { at = now; work = Work.changed d.name d.value (text "unknown") }) _ (omega arith)
          (t_log Kind.stale none none _ _ refl (t_with_cells _ e h)))
          h)

  t_drop : (e : Engine) → Tidy now e → Tidy now (drop_runs now e)
  unfolding drop_runs boundary
  t_drop e h = t_log Kind.restart none none none _ refl (t_with_runs [] e h)

  tidy_process : (rules : List Automation) (w : Work) (e : Engine) → Tidy now e → Tidy now (process now rules w e)
  unfolding process trigger boundary
  tidy_process rules (Work.external (Input.set x v)) e h = t_update x v none none Kind.external e refl h
  tidy_process rules (Work.external Input.restart) e h = t_drop e h
  tidy_process rules (Work.external reload) e h = t_drop e h
  tidy_process rules (Work.changed x from to) e h = t_offers x from to rules _ (t_wake x from to e h)
  tidy_process rules (Work.resume k) e h = t_resume k e h
  tidy_process rules (Work.timeout k) e h = t_time_out k e h
  tidy_process rules (Work.stale x n) e h = t_stale x n e h

-- what is known of the records of a loop that ends
pub record Told (h : ℕ) (l : List Trace) : Type 0 where
  pub rises : Rising 0 l h
  pub heads : headed l ≡ true
  pub fairs : Every fair l

pub tidy_loop : (rules : List Automation) (h n k now : ℕ) (s : Engine) → Tidy now s → now ≤ h
    → Told h (loop rules h n k s).engine.trace
unfolding loop
tidy_loop rules h zero k now s t z = by (goes h s)
  where
    here : Told h s.trace
    here = record { rises = rising_up 0 s.trace now h t.told z; heads = t.begins; fairs = t.plain }

    by : {x : Next} → Goes h s x
        → Told h (◌▸◌ {A = Ended} (elim x [
          | stop ↦ record { engine = s; steps = k; incomplete = [] }
          | exhausted ↦ record { engine = s; steps = k; incomplete = space_spent ∷ [] }
          | take i l ↦ record { engine = s; steps = k; incomplete = steps_spent ∷ [] }
        ]) (λ (d : Ended). d.engine.trace))
    by (stops q) = here
    by spent = here
    by (takes i l p b) = here
tidy_loop rules h (suc n) k now s t z = by (goes h s) (tidy_loop rules h n)
  where
    here : Told h s.trace
    here = record { rises = rising_up 0 s.trace now h t.told z; heads = t.begins; fairs = t.plain }

    by : {x : Next} → Goes h s x
        → ((k now : ℕ) (s : Engine) → Tidy now s → now ≤ h → Told h (loop rules h n k s).engine.trace)
        → Told h (◌▸◌ {A = Ended} (elim x [
          | stop ↦ record { engine = s; steps = k; incomplete = [] }
          | exhausted ↦ record { engine = s; steps = k; incomplete = space_spent ∷ [] }
          | take i l ↦ loop rules h n (k + 1) (s ▸ with_queue l ▸ process i.at rules i.work)
        ]) (λ (d : Ended). d.engine.trace))
    by (stops q) ih = here
    by spent ih = here
    by (takes i l p b) ih = ih (k + 1) i.at (process i.at rules i.work (with_queue l s))
        (tidy_process i.at rules i.work (with_queue l s) popped) in_time
      where
        at_least : now ≤ i.at
        at_least = leb_le now i.at (unfold late in (pop_late now s.queue i l t.due p))

        in_time : i.at ≤ h
        in_time = omega (arith, gt_leb (suc h) i.at b)

        popped : Tidy i.at (with_queue l s)
        popped = unfold with_queue in
            (record {
              due = pop_rest (late i.at) s.queue i l (pop_least s.queue i l p) p;
              told =
                  rising_up 0 s.trace now i.at t.told at_least;
              begins = t.begins;
              plain = t.plain;
            })
