-- engine.rs: the simulation, step by step: what each item of work does, and the loop over the queue.
-- A method of Rust's that changes the engine is a function to the engine afterwards. `e ▸ f ▸ g` reads in Rust's order.
use Rattle.std.specs.Prelude.{ℕ, zero, suc, ◌+◌, Bool, true, false, ◌&&◌, ◌||◌, not, List, [], ◌∷◌, ◌++◌, ltb, leb, eqb, length, if◌then◌else◌}
use Rattle.std.proofs.Math.Option.{Option, none, some}
use Rattle.texts.specs.Lists.{
  ◌▸◌,
  absent,
  present_and,
  any,
  keep,
  find,
  tally,
  each,
  flat,
  through,
  all_lists,
}
use Rattle.texts.specs.Texts.{Text, text, eq_t, all_texts}
use Rattle.model_spec.specs.Validate.{undecided}
use Rattle.model_spec.specs.Model.{
  Source,
  Moment,
  Trigger,
  Effect,
  toggle,
  delay,
  condition,
  choose,
  wait,
  Actions,
  done,
  act,
  Branches,
  no_branch,
  branch,
  Automation,
  Input,
  reload,
  Event,
}
use Rattle.engine_spec.specs.Cells.{Cell, cell_of, value_of, put, all_cells}
use Rattle.engine_spec.specs.Kleene.{Truth, Yes, No, Unknown}
use Rattle.engine_spec.specs.Truth.{moment_after, evaluate, evaluate_all, matches, all_truth}
use Rattle.engine_spec.specs.Modes.{
  Decision,
  already_running,
  max_reached,
  start,
  stop_and_start,
  wait_in_line,
  decide,
}
use Rattle.engine_spec.specs.Reasons.{
  unknown_trigger_condition,
  toggle_of_unknown,
  unknown_action_condition,
  unknown_choose_condition,
  unsupported_wait,
  space_spent,
  steps_spent,
  runs_left,
  all_reasons,
}
use Rattle.engine_spec.specs.Changes.{
  if_some,
  with_cells,
  add,
  append,
  with_runs,
  add_run,
  uncertain,
  with_queue,
  adds,
  all_changes,
}
use Rattle.engine_spec.specs.Records.{
  Key,
  Waiting,
  Run,
  Work,
  Item,
  Kind,
  Change,
  Areas,
  Engine,
}

-- ---- runs

unfoldable pub same_run : Key → Run → Bool
same_run k r = eq_t r.key.rule k.rule && eqb r.key.sequence k.sequence

unfoldable pub of_rule : Text → Run → Bool
of_rule id r = eq_t r.key.rule id

-- not this run; not a run of this automation
unfoldable pub other_run : Key → Run → Bool
other_run k r = not (same_run k r)

unfoldable pub of_other_rule : Text → Run → Bool
of_other_rule id r = not (of_rule id r)

-- a queued run of the automation
unfoldable pub queued_for : Text → Run → Bool
queued_for id r = of_rule id r && r.queued

-- a run of the automation that isn't queued
unfoldable pub executing : Text → Run → Bool
executing id r = of_rule id r && not r.queued

-- the run r in its own place
unfoldable pub in_place : Run → Run → Run
in_place r x = if same_run r.key x then r else x

unfoldable pub store : Run → Engine → Engine
store r e = with_runs (each (in_place r) e.runs) e

-- the run with other actions left, with another wait, no longer queued
abbrev pub left : Actions → Run → Run
left a r = record { key = r.key; number = r.number; actions = a; waiting = r.waiting; queued = r.queued }

abbrev pub waits : Option Waiting → Run → Run
waits w r = record { key = r.key; number = r.number; actions = r.actions; waiting = w; queued = r.queued }

abbrev pub released : Run → Run
released r = record { key = r.key; number = r.number; actions = r.actions; waiting = r.waiting; queued = false }

-- a new run of the automation, given the automations of the runs made so far
unfoldable pub fresh_run : Automation → (later : Bool) → List Text → Run
fresh_run r later made = record {
  key = record { rule = r.id; sequence = tally (eq_t r.id) made };
  number = length made + 1;
  actions = r.actions;
  waiting = none;
  queued = later;
}

-- the run waits for this change
unfoldable pub awaits : (entity from to : Text) → Run → Bool
awaits x from to r = present_and (λ w. matches x from to w.trigger) r.waiting

-- and no longer waits after it
unfoldable pub woken : (entity from to : Text) → Run → Run
woken x from to r = if awaits x from to r then waits none r else r

-- ---- values

-- Toggle: `on` gives `off`; any other known value gives `on`
unfoldable pub toggled : Text → Text
toggled v = if eq_t v (text "on") then text "off" else text "on"

infixr 40 ◌then◌
-- the actions of the first list, then those of the second
unfoldable pub ◌then◌ : Actions → Actions → Actions
done then r = r
act s f l then r = act s f (l then r)

-- the list that a choice takes: the first whose conditions hold, unless one before it is unknown
unfoldable pub select : Moment → Branches → (default : Actions) → List Cell → Option Actions
select t no_branch d l = some d
select t (branch ps as' bs) d l = elim (evaluate_all t ps l) [ Yes ↦ some as' | No ↦ select t bs d l | Unknown ↦ none ]

-- ---- what happens at a second
module _ (now : ℕ) where
  -- the moment at which this second falls
  abbrev pub moment : Engine → Moment
  moment e = moment_after e.start now

  -- work for this second
  unfoldable pub at_once : Work → Item
  at_once w = record { at = now; work = w }

  -- the run's next step
  unfoldable pub next_step : Run → Item
  next_step r = at_once (Work.resume r.key)

  unfoldable pub log : Kind → (automation : Option Text) → Option Source → Option Change → Engine → Engine
  log k id s c = append (record { at = now; kind = k; automation = id; source = s; change = c })

  -- a record about an automation alone
  unfoldable pub log_rule : Kind → Text → Engine → Engine
  log_rule k id = log k (some id) none none

  -- a record of a run's action
  unfoldable pub log_action : Kind → Source → Run → Engine → Engine
  log_action k src r = log k (some r.key.rule) (some src) none

  -- ---- writes

  -- the expiry of a write to the cell, `stale_after` + 1 seconds later
  unfoldable pub expiry : Cell → List Item
  expiry c = elim c.stale_after [
    | none ↦ []
    | some ttl ↦ record { at = now + ttl + 1; work = Work.stale c.name c.version } ∷ []
  ]

  unfoldable pub expiry_of : Option Cell → List Item
  expiry_of none = []
  expiry_of (some c) = expiry c

  unfoldable pub change_of : (entity from to : Text) → List Item
  change_of x from to = if eq_t from to then [] else at_once (Work.changed x from to) ∷ []

  unfoldable pub update : (entity value : Text) → Option Text → Option Source → Kind → Engine → Engine
  update x v id src kind e =
      let before = value_of x e.cells in
      let cells = put x v 1 e.cells in
      e
      ▸ with_cells cells
      ▸ adds (expiry_of (cell_of x cells))
      ▸ log kind id src (some (record { entity = x; before = before; after = v }))
      ▸ adds (change_of x before v)

  -- ---- ends of runs

  unfoldable pub let_go : Run → Engine → Engine
  let_go r e = e ▸ store (released r) ▸ add (next_step r)

  -- the first queued run of the automation goes on
  unfoldable pub release : Text → Engine → Engine
  release id e = e ▸ if_some let_go (find (queued_for id) e.runs)

  unfoldable pub finish : Run → Engine → Engine
  finish r e =
      e
      ▸ with_runs (keep (other_run r.key) e.runs)
      ▸ log_rule (Kind.complete r.number) r.key.rule
      ▸ release r.key.rule

  -- ---- a change

  unfoldable pub wake : (entity from to : Text) → Engine → Engine
  wake x from to e =
      e
      ▸ with_runs (each (woken x from to) e.runs)
      ▸ adds (each next_step (keep (awaits x from to) e.runs))

  unfoldable pub begin : Automation → (later : Bool) → Engine → Engine
  begin r later e =
      let run = fresh_run r later e.made in
      e
      ▸ add_run run
      ▸ log_rule (if later then Kind.queued run.number else Kind.start run.number) r.id
      ▸ adds (if later then [] else next_step run ∷ [])

  unfoldable pub carry_out : Decision → Automation → Engine → Engine
  carry_out already_running r e = e ▸ log_rule Kind.single_running r.id
  carry_out max_reached r e = e ▸ log_rule Kind.max_reached r.id
  carry_out start r e = e ▸ begin r false
  carry_out stop_and_start r e =
      e ▸ with_runs (keep (of_other_rule r.id) e.runs) ▸ log_rule Kind.cancel r.id ▸ begin r false
  carry_out wait_in_line r e = e ▸ begin r true

  -- an automation with notes never starts
  unfoldable pub admit : Truth → Automation → Engine → Engine
  admit Yes r e = elim r.notes [
    | [] ↦ carry_out (decide r.mode r.max (tally (of_rule r.id) e.runs)) r e
    | n ∷ l ↦ e
  ]
  admit No r e = e
  admit Unknown r e = e ▸ uncertain (unknown_trigger_condition r.id)

  -- the automation is offered the change
  unfoldable pub offer : (entity from to : Text) → Automation → Engine → Engine
  offer x from to r e =
      let verdict = evaluate_all (moment e) r.conditions e.cells in
      if any (matches x from to) r.triggers
      then (e ▸ log (Kind.trigger verdict) (some r.id) (some r.source) none ▸ admit verdict r)
      else e

  unfoldable pub trigger : (entity from to : Text) → List Automation → Engine → Engine
  trigger x from to rules e = e ▸ wake x from to ▸ through (offer x from to) rules

  -- ---- a run's next action

  unfoldable pub go_on_after : (seconds : ℕ) → Run → Engine → Engine
  go_on_after n r = add (record { at = now + n; work = Work.resume r.key })

  unfoldable pub write : (entity value : Text) → Source → Run → Engine → Engine
  write x v src r = update x v (some r.key.rule) (some src) Kind.action

  unfoldable pub flip : (entity : Text) → Source → Run → Engine → Engine
  flip x src r e =
      let old = value_of x e.cells in
      if undecided old then uncertain (toggle_of_unknown r.key.rule) e else write x (toggled old) src r e

  -- a condition's verdict: the run goes on, or ends
  unfoldable pub tested : Truth → Run → Engine → Engine
  tested Yes r e = e ▸ add (next_step r)
  tested No r e = e ▸ finish r
  tested Unknown r e = e ▸ uncertain (unknown_action_condition r.key.rule) ▸ finish r

  unfoldable pub chosen : Option Actions → Source → Run → Engine → Engine
  chosen none src r e = e ▸ uncertain (unknown_choose_condition r.key.rule) ▸ finish r
  chosen (some as') src r e = e ▸ store (left (as' then r.actions) r) ▸ log_action Kind.choose src r ▸ add (next_step r)

  unfoldable pub begin_wait : Trigger → (seconds : ℕ) → (continue : Bool) → Source → Run → Engine → Engine
  begin_wait t n c src r e =
      if absent t.note
      then (e
      ▸ store (waits (some (record { trigger = t; deadline = now + n; continue = c; source = src })) r)
      ▸ add (record { at = now + n; work = Work.timeout r.key })
      ▸ log_action (Kind.wait n) src r)
      else (e ▸ uncertain unsupported_wait ▸ finish r)

  -- the effect of an action of the run r, which has the actions after it left
  unfoldable pub perform : Effect → Source → Run → Engine → Engine
  perform (Effect.set x v) src r e = e ▸ write x v src r ▸ add (next_step r)
  perform (toggle x) src r e = e ▸ flip x src r ▸ add (next_step r)
  perform (delay n) src r e = e ▸ log_action (Kind.delay n) src r ▸ go_on_after n r
  perform (condition p) src r e =
      let v = evaluate (moment e) p e.cells in
      e ▸ log_action (Kind.condition v) src r ▸ tested v r
  perform (choose bs d) src r e = e ▸ chosen (select (moment e) bs d e.cells) src r
  perform (wait t n c) src r e = e ▸ begin_wait t n c src r
  perform (Effect.unknown reason) src r e = e ▸ uncertain reason ▸ log_action (Kind.unknown reason) src r ▸ finish r

  unfoldable pub go_on : Actions → Run → Engine → Engine
  go_on done r e = e ▸ finish r
  go_on (act src f rest) r e = e ▸ store (left rest r) ▸ perform f src (left rest r)

  -- a queued or waiting run stays as it is
  unfoldable pub step : Run → Engine → Engine
  step r e = if r.queued || not (absent r.waiting) then e else go_on r.actions r e

  unfoldable pub resume : Key → Engine → Engine
  resume k e = e ▸ if_some step (find (same_run k) e.runs)

  -- ---- the other work

  -- a timeout acts on the run's present wait, if its deadline is now
  unfoldable pub wait_over : Waiting → Run → Engine → Engine
  wait_over w r e =
      let told = e ▸ log_action (Kind.timeout w.continue) w.source r in
      if eqb w.deadline now
      then (if w.continue then (told ▸ store (waits none r) ▸ add (next_step r)) else (told ▸ finish r))
      else e

  unfoldable pub end_wait : Run → Engine → Engine
  end_wait r = if_some (λ w. wait_over w r) r.waiting

  unfoldable pub time_out : Key → Engine → Engine
  time_out k e = e ▸ if_some end_wait (find (same_run k) e.runs)

  -- the cell expires, if no later write came
  unfoldable pub expire : (version : ℕ) → Cell → Engine → Engine
  expire n c e =
      let gone = text "unknown" in
      if eqb c.version n && not (eq_t c.value gone)
      then (e
      ▸ with_cells (put c.name gone 0 e.cells)
      ▸ log Kind.stale none none (some (record { entity = c.name; before = c.value; after = gone }))
      ▸ add (at_once (Work.changed c.name c.value gone)))
      else e

  unfoldable pub go_stale : (entity : Text) → (version : ℕ) → Engine → Engine
  go_stale x n e = e ▸ if_some (expire n) (cell_of x e.cells)

  unfoldable pub drop_runs : Engine → Engine
  drop_runs e = e ▸ with_runs [] ▸ log Kind.restart none none none

  unfoldable pub process : List Automation → Work → Engine → Engine
  process rules (Work.external (Input.set x v)) e = update x v none none Kind.external e
  process rules (Work.external Input.restart) e = drop_runs e
  process rules (Work.external reload) e = drop_runs e
  process rules (Work.changed x from to) e = trigger x from to rules e
  process rules (Work.resume k) e = resume k e
  process rules (Work.timeout k) e = time_out k e
  process rules (Work.stale x n) e = go_stale x n e

-- ---- the loop

-- the first of the earliest items, and the others
unfoldable pub sooner : Item → List Item → Option (Item × List Item) → Option (Item × List Item)
sooner i l none = some (i, l)
sooner i l (some (j, m)) = if leb i.at j.at then some (i, l) else some (j, i ∷ m)

unfoldable pub pop : List Item → Option (Item × List Item)
pop [] = none
pop (i ∷ l) = sooner i l (pop l)

-- what the loop does next, its steps aside
pub data Next : Type 0 where
  stop exhausted : Next
  take : Item → List Item → Next

-- with work queued: first the records and the queue, then the horizon
unfoldable pub next_of : (horizon : ℕ) → Engine → Option (Item × List Item) → Next
next_of h e none = stop
next_of h e (some (i, l)) =
    if leb 10000 (length e.trace) || ltb 20000 (length e.queue) then exhausted
    else if ltb h i.at then stop
    else take i l

-- how the loop ended, after how many steps, and why it was cut short
pub record Ended : Type 0 where
  pub engine : Engine
  pub steps : ℕ
  pub incomplete : List Text

module _ (rules : List Automation) (horizon : ℕ) where
  unfoldable pub loop : (left steps : ℕ) → Engine → Ended
  loop zero n e = elim (next_of horizon e (pop e.queue)) [
    | stop ↦ record { engine = e; steps = n; incomplete = [] }
    | exhausted ↦ record { engine = e; steps = n; incomplete = space_spent ∷ [] }
    | take i l ↦ record { engine = e; steps = n; incomplete = steps_spent ∷ [] }
  ]
  loop (suc left) n e = elim (next_of horizon e (pop e.queue)) [
    | stop ↦ record { engine = e; steps = n; incomplete = [] }
    | exhausted ↦ record { engine = e; steps = n; incomplete = space_spent ∷ [] }
    | take i l ↦ loop left (n + 1) (e ▸ with_queue l ▸ process i.at rules i.work)
  ]

-- ---- before and after the loop

unfoldable pub event_item : Event → Item
event_item v = record { at = v.at; work = Work.external v.input }

unfoldable pub begun : Areas → Moment → List Cell → (unsupported : List Text) → List Event → Engine
begun areas origin cells notes events =
    let empty : Engine = record {
      cells = cells;
      queue = [];
      runs = [];
      made = [];
      trace = [];
      unknown = notes;
      overflow = none;
      areas = areas;
      start = origin;
    } in
    empty ▸ log 0 Kind.initial none none none ▸ adds (each event_item events) ▸ adds (flat (expiry 0) cells)

-- runs left at the end make it incomplete
unfoldable pub left_over : List Run → List Text
left_over [] = []
left_over (r ∷ l) = runs_left ∷ []

-- the horizon record is written only if nothing is incomplete
unfoldable pub last_record : (horizon : ℕ) → (incomplete : List Text) → Engine → Engine
last_record h [] e = e ▸ log h Kind.horizon none none none
last_record h (t ∷ l) e = e

unfoldable pub closed : (horizon : ℕ) → Ended → Ended
closed h d =
    let reasons = d.incomplete ++ left_over d.engine.runs in
    record { engine = d.engine ▸ last_record h reasons; steps = d.steps; incomplete = reasons }

-- opens the file, for proofs by computation
unfoldable pub all_engine : Unit {0}
unfolding all_lists all_texts all_cells all_truth all_reasons all_changes undecided decide same_run of_rule other_run
    of_other_rule queued_for executing in_place store fresh_run awaits woken toggled ◌then◌ select at_once next_step log log_rule
    log_action expiry expiry_of change_of update let_go release finish wake begin carry_out admit offer trigger go_on_after
    write flip tested chosen begin_wait perform go_on step resume wait_over end_wait time_out expire go_stale drop_runs
    process sooner pop next_of loop event_item begun left_over last_record closed
all_engine = tt
