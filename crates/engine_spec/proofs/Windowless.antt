-- A model whose automations have no window answers the same whatever its start: each change of the engine does the same with
-- another start, as long as no run has a window left.
use Rattle.std.specs.Prelude.{if◌then◌else◌}
use Prim.Native.Nat.{ℕ, zero, suc, ◌+◌}
use mathlib.Core.Path.{◌≡◌, refl, ap, ◌∙◌}
use mathlib.Core.Bool.{Bool, true, false, not, ◌&&◌, ◌||◌, false≢true}
use mathlib.Core.List.{List, [], ◌∷◌, ◌++◌}
use mathlib.Core.Option.{Option, none, some}
use lib.Dec.{eqb}
use Rattle.texts.specs.Lists.{◌▸◌, absent, any, all, keep, find, tally, each, flat, through}
use Rattle.texts.specs.Texts.{Text, text, eq_t}
use Rattle.model_spec.specs.Validate.{undecided}
use Rattle.model_spec.specs.Model.{
  Source,
  Moment,
  Predicate,
  state,
  window,
  Trigger,
  Effect,
  toggle,
  delay,
  condition,
  choose,
  wait,
  Actions,
  done,
  act,
  Branches,
  no_branch,
  branch,
  Automation,
  Input,
  reload,
  Event,
  Model,
  is_window,
}
use Rattle.model_spec.specs.Windows.{
  no_window,
  windowless_effect,
  windowless_actions,
  windowless_branches,
  windowless_rule,
  with_start,
}
use Rattle.engine_spec.specs.Cells.{Cell, cell_of, value_of, put}
use Rattle.engine_spec.specs.Kleene.{Truth, Yes, No, Unknown, ◌and₃◌}
use Rattle.engine_spec.specs.Truth.{evaluate, evaluate_all, matches}
use Rattle.engine_spec.specs.Unsupported.{unsupported}
use Rattle.engine_spec.specs.Reasons.{toggle_of_unknown, space_spent, steps_spent}
use Rattle.engine_spec.specs.Modes.{
  Decision,
  already_running,
  max_reached,
  start,
  stop_and_start,
  wait_in_line,
  decide,
}
use Rattle.engine_spec.specs.Records.{Key, Waiting, Run, Work, Item, Kind, Change, Trace, Areas, Engine}
use Rattle.engine_spec.specs.Changes.{
  if_some,
  with_cells,
  add,
  append,
  with_runs,
  add_run,
  uncertain,
  adds,
  with_queue,
}
use Rattle.engine_spec.specs.Engine.{
  same_run,
  of_rule,
  other_run,
  of_other_rule,
  queued_for,
  in_place,
  store,
  left,
  waits,
  fresh_run,
  awaits,
  woken,
  toggled,
  ◌then◌ as ◌followed-by◌,
  select,
  moment,
  next_step,
  log,
  log_rule,
  log_action,
  expiry,
  expiry_of,
  change_of,
  update,
  let_go,
  release,
  finish,
  wake,
  begin,
  carry_out,
  admit,
  offer,
  trigger,
  go_on_after,
  write,
  flip,
  tested,
  chosen,
  begin_wait,
  perform,
  go_on,
  step,
  resume,
  wait_over,
  end_wait,
  time_out,
  expire,
  go_stale,
  drop_runs,
  process,
  pop,
  Next,
  stop,
  exhausted,
  take,
  next_of,
  Ended,
  loop,
  event_item,
  begun,
  left_over,
  last_record,
  closed,
}
use Rattle.engine_spec.specs.Simulate.{ended, outcome, unless_full, simulated}
use Rattle.engine_spec.proofs.Lists.{Each, and_l, and_r, each_keep, each_to, each_end, each_found}

-- ---- truths and choices

module _ (t u : Moment) (l : List Cell) where
  pub same_truth : (p : Predicate) → no_window p ≡ true → evaluate t p l ≡ evaluate u p l
  unfolding evaluate no_window is_window
  same_truth (state x v) h = refl
  same_truth (Predicate.unknown r) h = refl
  same_truth (window d b e) h = absurd (false≢true h)

  pub same_truths : (ps : List Predicate) → all no_window ps ≡ true → evaluate_all t ps l ≡ evaluate_all u ps l
  unfolding evaluate_all all
  same_truths [] h = refl
  same_truths (p ∷ ps) h =
      λ i. same_truth p (and_l (no_window p) (all no_window ps) h) i
      and₃ same_truths ps (and_r (no_window p) (all no_window ps) h) i

  pub same_choice : (bs : Branches) (d : Actions) → windowless_branches bs ≡ true → select t bs d l ≡ select u bs d l
  unfolding select windowless_branches
  same_choice no_branch d h = refl
  same_choice (branch ps as' bs) d h =
      let k = and_r (all no_window ps) (windowless_actions as' && windowless_branches bs) h in
      go (same_truths ps (and_l (all no_window ps) (windowless_actions as' && windowless_branches bs) h))
      (same_choice bs d (and_r (windowless_actions as') (windowless_branches bs) k))
    where
      go : {v v' : Truth} → v ≡ v' → {o o' : Option Actions} → o ≡ o'
          → ◌≡◌ {A = Option Actions} (elim v [ Yes ↦ some as' | No ↦ o | Unknown ↦ none ])
          (elim v' [ Yes ↦ some as' | No ↦ o' | Unknown ↦ none ])
      go p q = λ i. elim (p i) [ Yes ↦ some as' | No ↦ q i | Unknown ↦ none ]

-- ---- runs without windows

abbrev Calm : Run → Type 0
Calm r = windowless_actions r.actions ≡ true

abbrev CalmIfRun : Option Run → Type 0
CalmIfRun none = Unit {0}
CalmIfRun (some r) = Calm r

abbrev CalmIf : Option Actions → Type 0
CalmIf none = Unit {0}
CalmIf (some a) = windowless_actions a ≡ true

chosen_calm : (t : Moment) (bs : Branches) (d : Actions) (l : List Cell) → windowless_branches bs ≡ true
    → windowless_actions d ≡ true → CalmIf (select t bs d l)
unfolding select windowless_branches
chosen_calm t no_branch d l h k = k
chosen_calm t (branch ps as' bs) d l h k =
    let g = and_r (all no_window ps) (windowless_actions as' && windowless_branches bs) h in
    go (evaluate_all t ps l) (and_l (windowless_actions as') (windowless_branches bs) g)
    (chosen_calm t bs d l (and_r (windowless_actions as') (windowless_branches bs) g) k)
  where
    go : (v : Truth) → windowless_actions as' ≡ true → CalmIf (select t bs d l)
        → CalmIf (elim v [ Yes ↦ some as' | No ↦ select t bs d l | Unknown ↦ none ])
    go Yes a b = a
    go No a b = b
    go Unknown a b = tt

joined_calm : (a b : Actions) → windowless_actions a ≡ true → windowless_actions b ≡ true
    → windowless_actions (a followed-by b) ≡ true
unfolding windowless_actions ◌followed-by◌
joined_calm done b h k = k
joined_calm (act s f rest) b h k =
    go (windowless_effect f) (and_l (windowless_effect f) (windowless_actions rest) h)
    (joined_calm rest b (and_r (windowless_effect f) (windowless_actions rest) h) k)
  where
    go : (x : Bool) → x ≡ true → windowless_actions (rest followed-by b) ≡ true
        → x && windowless_actions (rest followed-by b) ≡ true
    go true e g = g
    go false e g = e

module _ (o : Moment) where
  -- the engine with another start
  abbrev turned : Engine → Engine
  turned e = record {
    cells = e.cells;
    queue = e.queue;
    runs = e.runs;
    made = e.made;
    trace = e.trace;
    unknown = e.unknown;
    overflow = e.overflow;
    areas = e.areas;
    start = o;
  }

  abbrev CalmRuns : Engine → Type 0
  CalmRuns e = Each Calm e.runs

  -- f does the same with the other start, if no run has a window left; and none has one after it
  record Same (f : Engine → Engine) : Type 0 where
    keeps : (e : Engine) → CalmRuns e → CalmRuns (f e)
    same : (e : Engine) → CalmRuns e → f (turned e) ≡ turned (f e)

  -- ---- ways to put changes together

  idle : Same (λ e. e)
  idle = record { keeps = λ e c. c; same = λ e c. refl }

  infixr 40 ◌then◌
  ◌then◌ : {f g : Engine → Engine} → Same f → Same g → Same (λ e. g (f e))
  ◌then◌ {f} {g} s t = record {
    keeps = λ e c. t.keeps (f e) (s.keeps e c);
    same = λ e c. ap g (s.same e c) ∙ t.same (f e) (s.keeps e c);
  }

  -- a change that looks at a part of the engine, which has a property
  with : {X : Type 0} (k : Engine → X) (P : X → Type 0) → ((e : Engine) → k (turned e) ≡ k e)
      → ((e : Engine) → CalmRuns e → P (k e)) → (h : X → Engine → Engine) → ((x : X) → P x → Same (h x))
      → Same (λ e. h (k e) e)
  with {X} k P u v h s = record {
    keeps = λ e c. (s (k e) (v e c)).keeps e c;
    same = λ e c. ap (λ (x : X). h x (turned e)) (u e) ∙ (s (k e) (v e c)).same e c;
  }

  look : {X : Type 0} (k : Engine → X) → ((e : Engine) → k (turned e) ≡ k e) → (h : X → Engine → Engine)
      → ((x : X) → Same (h x)) → Same (λ e. h (k e) e)
  look k u h s = with k (λ _. Unit {0}) u (λ e c. tt) h (λ x _. s x)

  either : {f g : Engine → Engine} (b : Bool) → Same f → Same g → Same (λ e. if b then f e else g e)
  either true s t = s
  either false s t = t

  maybe : {X : Type 0} (f : X → Engine → Engine) → ((x : X) → Same (f x)) → (x : Option X) → Same (if_some f x)
  unfolding if_some
  maybe f s none = idle
  maybe f s (some x) = s x

  -- ---- primitive changes

  s_cells : (l : List Cell) → Same (with_cells l)
  unfolding with_cells
  s_cells l = record { keeps = λ e c. c; same = λ e c. refl }

  s_runs : (l : List Run) → Each Calm l → Same (with_runs l)
  unfolding with_runs
  s_runs l h = record { keeps = λ e c. h; same = λ e c. refl }

  s_uncertain : (t : Text) → Same (uncertain t)
  unfolding uncertain
  s_uncertain t = record { keeps = λ e c. c; same = λ e c. refl }

  s_queue : (l : List Item) → Same (with_queue l)
  unfolding with_queue
  s_queue l = record { keeps = λ e c. c; same = λ e c. refl }

  s_add : (i : Item) → Same (add i)
  unfolding add
  s_add i = record { keeps = λ e c. c; same = λ e c. refl }

  s_append : (t : Trace) → Same (append t)
  unfolding append
  s_append t = record { keeps = λ e c. c; same = λ e c. refl }

  s_run : (r : Run) → Calm r → Same (add_run r)
  unfolding add_run
  s_run r h = record { keeps = λ e c. each_end Calm e.runs r c h; same = λ e c. refl }

  -- the runs, changed one by one or some of them kept
  s_kept : (p : Run → Bool) → Same (λ e. with_runs (keep p e.runs) e)
  s_kept p =
      with (λ e. keep p e.runs) (Each Calm) (λ e. refl) (λ e c. each_keep Calm p e.runs c) with_runs s_runs

  s_each : (f : Run → Run) → ((r : Run) → Calm r → Calm (f r)) → Same (λ e. with_runs (each f e.runs) e)
  s_each f h =
      with (λ e. each f e.runs) (Each Calm) (λ e. refl) (λ e c. each_to Calm Calm f h e.runs c) with_runs s_runs

  -- ---- the engine's steps

  s_adds : (l : List Item) → Same (adds l)
  unfolding adds through
  s_adds [] = idle
  s_adds (i ∷ l) = s_add i then s_adds l

  s_store : (r : Run) → Calm r → Same (store r)
  unfolding store in_place
  s_store r h = s_each (in_place r) go
    where
      pick : (b : Bool) (x : Run) → Calm x → Calm (if b then r else x)
      pick true x k = h
      pick false x k = k

      go : (x : Run) → Calm x → Calm (in_place r x)
      go x k = pick (same_run r.key x) x k

  module _ (now : ℕ) where
    s_log : (k : Kind) (id : Option Text) (s : Option Source) (d : Option Change) → Same (log now k id s d)
    unfolding log
    s_log k id s d = s_append _

    s_update : (x v : Text) (id : Option Text) (src : Option Source) (k : Kind) → Same (update now x v id src k)
    unfolding update
    s_update x v id src k =
        look (λ e. e.cells) (λ e. refl)
        (λ (c : List Cell) e.
        e
        ▸ with_cells (put x v 1 c)
        ▸ adds (expiry_of now (cell_of x (put x v 1 c)))
        ▸ log now k id src (some (record { entity = x; before = value_of x c; after = v }))
        ▸ adds (change_of now x (value_of x c) v))
        (λ c. s_cells _ then s_adds _ then s_log k id src _ then s_adds _)

    -- what is done with the first run that passes a test
    s_found : (q : Run → Bool) (f : Run → Engine → Engine) → ((r : Run) → Calm r → Same (f r))
        → Same (λ e. if_some f (find q e.runs) e)
    unfolding if_some
    s_found q f s =
        with (λ e. find q e.runs) CalmIfRun (λ e. refl) (λ e c. calm e.runs c (find q e.runs) refl) (if_some f) go
      where
        calm : (l : List Run) → Each Calm l → (x : Option Run) → find q l ≡ x → CalmIfRun x
        calm l c none e = tt
        calm l c (some r) e = each_found Calm q l r c e

        go : (x : Option Run) → CalmIfRun x → Same (if_some f x)
        go none h = idle
        go (some r) h = s r h

    s_let_go : (r : Run) → Calm r → Same (let_go now r)
    unfolding let_go
    s_let_go r h = s_store _ h then s_add _

    s_release : (id : Text) → Same (release now id)
    unfolding release
    s_release id = s_found (queued_for id) (let_go now) s_let_go

    s_finish : (r : Run) → Same (finish now r)
    unfolding finish log_rule
    s_finish r = s_kept (other_run r.key) then s_log _ _ _ _ then s_release r.key.rule

    s_wake : (x from to : Text) → Same (wake now x from to)
    unfolding wake woken
    s_wake x from to =
        with (λ e. e.runs) (Each Calm) (λ e. refl) (λ e c. c)
        (λ (l : List Run) e.
        e ▸ with_runs (each (woken x from to) l) ▸ adds (each (next_step now) (keep (awaits x from to) l)))
        (λ l h. s_runs _ (each_to Calm Calm (woken x from to) go l h) then s_adds _)
      where
        pick : (b : Bool) (r : Run) → Calm r → Calm (if b then waits none r else r)
        pick true r k = k
        pick false r k = k

        go : (r : Run) → Calm r → Calm (woken x from to r)
        go r k = pick (awaits x from to r) r k

    s_begin : (r : Automation) → windowless_actions r.actions ≡ true → (later : Bool) → Same (begin now r later)
    unfolding begin log_rule fresh_run
    s_begin r w later =
        with (λ e. fresh_run r later e.made) Calm (λ e. refl) (λ e c. w)
        (λ (run : Run) e.
        e
        ▸ add_run run
        ▸ log now (if later then Kind.queued run.number else Kind.start run.number) (some r.id) none none
        ▸ adds (if later then [] else next_step now run ∷ []))
        (λ run h. s_run run h then s_log _ _ _ _ then s_adds _)

    s_carry : (d : Decision) (r : Automation) → windowless_actions r.actions ≡ true → Same (carry_out now d r)
    unfolding carry_out log_rule
    s_carry already_running r w = s_log _ _ _ _
    s_carry max_reached r w = s_log _ _ _ _
    s_carry start r w = s_begin r w false
    s_carry stop_and_start r w = s_kept (of_other_rule r.id) then s_log _ _ _ _ then s_begin r w false
    s_carry wait_in_line r w = s_begin r w true

    s_admit : (v : Truth) (r : Automation) → windowless_actions r.actions ≡ true → Same (admit now v r)
    unfolding admit
    s_admit Yes r w = go r.notes
      where
        go : (l : List Text) → Same (λ e. elim l [
          | [] ↦ carry_out now (decide r.mode r.max (tally (of_rule r.id) e.runs)) r e
          | n ∷ k ↦ e
        ])
        go [] = look (λ e. decide r.mode r.max (tally (of_rule r.id) e.runs)) (λ e. refl)
            (λ d. carry_out now d r) (λ d. s_carry d r w)
        go (n ∷ k) = idle
    s_admit No r w = idle
    s_admit Unknown r w = s_uncertain _

    s_offer : (x from to : Text) (r : Automation) → windowless_rule r ≡ true → Same (offer now x from to r)
    unfolding offer windowless_rule
    s_offer x from to r w =
        look (λ e. evaluate_all (moment now e) r.conditions e.cells)
        (λ e. same_truths _ _ e.cells r.conditions (and_l (all no_window r.conditions) _ w))
        (λ (v : Truth) e.
        if any (matches x from to) r.triggers
        then (e ▸ log now (Kind.trigger v) (some r.id) (some r.source) none ▸ admit now v r)
        else e)
        (λ v. either (any (matches x from to) r.triggers)
        (s_log _ _ _ _ then s_admit v r (and_r (all no_window r.conditions) _ w)) idle)

    s_offers : (x from to : Text) (l : List Automation) → all windowless_rule l ≡ true
        → Same (through (offer now x from to) l)
    unfolding through all
    s_offers x from to [] w = idle
    s_offers x from to (r ∷ l) w =
        s_offer x from to r (and_l (windowless_rule r) (all windowless_rule l) w)
        then s_offers x from to l (and_r (windowless_rule r) (all windowless_rule l) w)

    s_tested : (v : Truth) (r : Run) → Same (tested now v r)
    unfolding tested
    s_tested Yes r = s_add _
    s_tested No r = s_finish r
    s_tested Unknown r = s_uncertain _ then s_finish r

    s_chosen : (x : Option Actions) (src : Source) (r : Run) → CalmIf x → Calm r → Same (chosen now x src r)
    unfolding chosen log_action
    s_chosen none src r h k = s_uncertain _ then s_finish r
    s_chosen (some l) src r h k = s_store _ (joined_calm l r.actions h k) then s_log _ _ _ _ then s_add _

    s_flip : (x : Text) (src : Source) (r : Run) → Same (flip now x src r)
    unfolding flip write
    s_flip x src r =
        look (λ e. value_of x e.cells) (λ e. refl)
        (λ (old : Text) e.
        if undecided old then uncertain (toggle_of_unknown r.key.rule) e
        else update now x (toggled old) (some r.key.rule) (some src) Kind.action e)
        (λ old. either (undecided old) (s_uncertain _) (s_update x (toggled old) _ _ Kind.action))

    s_begin_wait : (t : Trigger) (n : ℕ) (c : Bool) (src : Source) (r : Run) → Calm r → Same (begin_wait now t n c src r)
    unfolding begin_wait log_action
    s_begin_wait t n c src r k =
        either (absent t.note) (s_store _ k then s_add _ then s_log _ _ _ _) (s_uncertain _ then s_finish r)

    s_perform : (g : Effect) (src : Source) (r : Run) → windowless_effect g ≡ true → Calm r → Same (perform now g src r)
    unfolding perform write log_action go_on_after windowless_effect
    s_perform (Effect.set x v) src r w k = s_update x v _ _ Kind.action then s_add _
    s_perform (toggle x) src r w k = s_flip x src r then s_add _
    s_perform (delay n) src r w k = s_log _ _ _ _ then s_add _
    s_perform (condition p) src r w k =
        look (λ e. evaluate (moment now e) p e.cells) (λ e. same_truth _ _ e.cells p w)
        (λ (v : Truth) e. e ▸ log now (Kind.condition v) (some r.key.rule) (some src) none ▸ tested now v r)
        (λ v. s_log _ _ _ _ then s_tested v r)
    s_perform (choose bs d) src r w k =
        let b = and_l (windowless_branches bs) (windowless_actions d) w in
        with (λ e. select (moment now e) bs d e.cells) CalmIf (λ e. same_choice _ _ e.cells bs d b)
        (λ e c. chosen_calm (moment now e) bs d e.cells b (and_r (windowless_branches bs) (windowless_actions d) w))
        (λ (x : Option Actions). chosen now x src r) (λ x h. s_chosen x src r h k)
    s_perform (wait t n c) src r w k = s_begin_wait t n c src r k
    s_perform (Effect.unknown reason) src r w k = s_uncertain reason then s_log _ _ _ _ then s_finish r

    s_go_on : (l : Actions) (r : Run) → windowless_actions l ≡ true → Same (go_on now l r)
    unfolding go_on windowless_actions
    s_go_on done r w = s_finish r
    s_go_on (act src g rest) r w =
        let k = and_r (windowless_effect g) (windowless_actions rest) w in
        s_store _ k then s_perform g src (left rest r) (and_l (windowless_effect g) (windowless_actions rest) w) k

    s_step : (r : Run) → Calm r → Same (step now r)
    unfolding step
    s_step r k = either (r.queued || not (absent r.waiting)) idle (s_go_on r.actions r k)

    s_resume : (k : Key) → Same (resume now k)
    unfolding resume
    s_resume k = s_found (same_run k) (step now) s_step

    s_over : (w : Waiting) (r : Run) → Calm r → Same (wait_over now w r)
    unfolding wait_over log_action
    s_over w r k =
        either (eqb w.deadline now)
        (s_log _ _ _ _ then either w.continue (s_store _ k then s_add _) (s_finish r))
        idle

    s_end_wait : (r : Run) → Calm r → Same (end_wait now r)
    unfolding end_wait
    s_end_wait r k = maybe (λ w. wait_over now w r) (λ w. s_over w r k) r.waiting

    s_time_out : (k : Key) → Same (time_out now k)
    unfolding time_out
    s_time_out k = s_found (same_run k) (end_wait now) s_end_wait

    s_expire : (n : ℕ) (c : Cell) → Same (expire now n c)
    unfolding expire
    s_expire n c =
        either (eqb c.version n && not (eq_t c.value (text "unknown")))
        (look (λ e. put c.name (text "unknown") 0 e.cells) (λ e. refl) with_cells s_cells
        then s_log _ _ _ _ then s_add _)
        idle

    s_stale : (x : Text) (n : ℕ) → Same (go_stale now x n)
    unfolding go_stale
    s_stale x n = look (λ e. cell_of x e.cells) (λ e. refl) (if_some (expire now n)) (maybe (expire now n) (s_expire n))

    s_drop : Same (drop_runs now)
    unfolding drop_runs
    s_drop = s_runs [] tt then s_log _ _ _ _

    s_process : (rules : List Automation) (w : Work) → all windowless_rule rules ≡ true → Same (process now rules w)
    unfolding process trigger
    s_process rules (Work.external (Input.set x v)) h = s_update x v none none Kind.external
    s_process rules (Work.external Input.restart) h = s_drop
    s_process rules (Work.external reload) h = s_drop
    s_process rules (Work.changed x from to) h = s_wake x from to then s_offers x from to rules h
    s_process rules (Work.resume k) h = s_resume k
    s_process rules (Work.timeout k) h = s_time_out k
    s_process rules (Work.stale x n) h = s_stale x n

  -- ---- the loop

  abbrev turned_end : Ended → Ended
  turned_end d = record { engine = turned d.engine; steps = d.steps; incomplete = d.incomplete }

  -- the loop looks at queue and records only
  looks : (h : ℕ) (e : Engine) (x : Option (Item × List Item)) → next_of h (turned e) x ≡ next_of h e x
  unfolding next_of
  looks h e none = refl
  looks h e (some (i, l)) = refl

  module _ (rules : List Automation) (w : all windowless_rule rules ≡ true) (h : ℕ) where
    turn : (i : Item) (l : List Item) → Same (λ e. process i.at rules i.work (with_queue l e))
    turn i l = s_queue l then s_process i.at rules i.work w

    same_loop : (left n : ℕ) (e : Engine) → CalmRuns e → loop rules h left n (turned e) ≡ turned_end (loop rules h left n e)
    unfolding loop
    same_loop zero n e c = ap (last (turned e)) (looks h e (pop e.queue)) ∙ by (next_of h e (pop e.queue))
      where
        last : Engine → Next → Ended
        last e x = elim x [
          | stop ↦ record { engine = e; steps = n; incomplete = [] }
          | exhausted ↦ record { engine = e; steps = n; incomplete = space_spent ∷ [] }
          | take i l ↦ record { engine = e; steps = n; incomplete = steps_spent ∷ [] }
        ]

        by : (x : Next) → last (turned e) x ≡ turned_end (last e x)
        by stop = refl
        by exhausted = refl
        by (take i l) = refl
    same_loop (suc left) n e c =
        ap (next (turned e)) (looks h e (pop e.queue)) ∙ by (same_loop left (n + 1)) (next_of h e (pop e.queue))
      where
        next : Engine → Next → Ended
        next e x = elim x [
          | stop ↦ record { engine = e; steps = n; incomplete = [] }
          | exhausted ↦ record { engine = e; steps = n; incomplete = space_spent ∷ [] }
          | take i l ↦ loop rules h left (n + 1) (e ▸ with_queue l ▸ process i.at rules i.work)
        ]

        by : ((f : Engine) → CalmRuns f → loop rules h left (n + 1) (turned f) ≡ turned_end (loop rules h left (n + 1) f))
            → (x : Next) → next (turned e) x ≡ turned_end (next e x)
        by s stop = refl
        by s exhausted = refl
        by s (take i l) =
            ap (loop rules h left (n + 1)) ((turn i l).same e c)
            ∙ s (process i.at rules i.work (with_queue l e)) ((turn i l).keeps e c)

  -- ---- the end and the beginning

  s_last : (h : ℕ) (l : List Text) → (e : Engine) → last_record h l (turned e) ≡ turned (last_record h l e)
  unfolding last_record log append
  s_last h [] e = refl
  s_last h (t ∷ l) e = refl

  at_end : (h : ℕ) (d : Ended) → closed h (turned_end d) ≡ turned_end (closed h d)
  unfolding closed
  at_end h d =
      let l = d.incomplete ++ left_over d.engine.runs in
      ap (λ (x : Engine). record { engine = x; steps = d.steps; incomplete = l }) (s_last h l d.engine)

  module _ (areas : Areas) (m : Model) (w : all windowless_rule m.rules ≡ true) (cells : List Cell)
      (events : List Event) where
    abbrev empty : Engine
    empty = record {
      cells = cells;
      queue = [];
      runs = [];
      made = [];
      trace = [];
      unknown = unsupported m.rules;
      overflow = none;
      areas = areas;
      start = m.start;
    }

    s_begun : Same
        (λ e. e ▸ log 0 Kind.initial none none none ▸ adds (each event_item events) ▸ adds (flat (expiry 0) cells))
    s_begun = s_log 0 _ _ _ _ then s_adds _ then s_adds _

    abbrev first : Engine
    first = begun areas m.start cells (unsupported m.rules) events

    ended_turned : ended areas (with_start o m) cells events ≡ turned_end (ended areas m cells events)
    unfolding ended begun
    ended_turned =
        let h = m.scenario.limits.horizon in
        let n = m.scenario.limits.max_steps in
        ap (λ (e : Engine). closed h (loop m.rules h n 0 e)) (s_begun.same empty tt)
        ∙ ap (closed h) (same_loop m.rules w h n 0 first (s_begun.keeps empty tt))
        ∙ at_end h (loop m.rules h n 0 first)

-- ---- a simulation

pub windowless_simulated : (o : Moment) (areas : Areas) (m : Model) → all windowless_rule m.rules ≡ true
    → (cells : List Cell) (events : List Event)
    → simulated areas (with_start o m) cells events ≡ simulated areas m cells events
unfolding simulated outcome
windowless_simulated o areas m w cells events =
    ap (λ (d : Ended). unless_full d.engine.overflow (outcome m d)) (ended_turned o areas m w cells events)
