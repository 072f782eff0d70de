-- Home Assistant's page on automation modes, sentence by sentence, as facts about a simulation.
-- `Page` says what holds at a moment, `ByThePage` that it holds at every moment; `modes_right` in proofs/Page proves it of
-- every accepted file.
use Rattle.std.specs.Prelude.{ℕ, suc, ◌+◌, ◌≤◌, ◌<◌, ◌≡◌, ◌⊎◌, Bool, true, false, not, ◌&&◌, eqb, length, if◌then◌else◌}
use mathlib.Core.List.{List, [], ◌∷◌, ◌++◌, Memᴰ}
use Rattle.std.proofs.Math.Option.{none, some}
use Rattle.texts.specs.Lists.{◌▸◌, absent, present_and, any, keep, find, tally, each, through}
use Rattle.texts.specs.Texts.{Text, eq_t}
use Rattle.model_spec.specs.Model.{
  Source,
  Effect,
  Actions,
  done,
  act,
  Mode,
  single,
  queued,
  parallel,
  Automation,
  Input,
  reload,
  Event,
  Model,
}
use Rattle.engine_spec.specs.Each.{Each}
use Rattle.engine_spec.specs.Cells.{Cell}
use Rattle.engine_spec.specs.Kleene.{Yes, No, Unknown}
use Rattle.engine_spec.specs.Truth.{evaluate_all, matches}
use Rattle.engine_spec.specs.Reasons.{unknown_trigger_condition}
use Rattle.engine_spec.specs.Unsupported.{unsupported}
use Rattle.engine_spec.specs.Records.{Key, Waiting, Run, Work, Item, Kind, Trace, Areas, Engine}
use Rattle.engine_spec.specs.Changes.{add, append, with_runs, add_run, uncertain, with_queue}
use Rattle.engine_spec.specs.Engine.{
  moment,
  left,
  store,
  finish,
  wake,
  offer,
  perform,
  process,
  pop,
  stop,
  exhausted,
  take,
  next_of,
  loop,
  begun,
}
use Rattle.engine_spec.specs.Simulate.{ended}

-- ---- the moments of a simulation

-- one item of work more, unless the loop ends here
unfoldable pub next_moment : Model → Engine → Engine
next_moment m e = elim (next_of m.scenario.limits.horizon e (pop e.queue)) [
  | stop ↦ e
  | exhausted ↦ e
  | take i l ↦ process i.at m.rules i.work (with_queue l e)
]

-- the engine after n items of work, or as the loop ended before
abbrev pub after_items : Areas → Model → List Cell → List Event → ℕ → Engine
after_items areas m cells events n =
    (loop m.rules m.scenario.limits.horizon n 0
    (begun areas m.start cells (unsupported m.rules) events)).engine

-- ---- words

unfoldable pub same_key : Key → Key → Bool
same_key j k = eq_t j.rule k.rule && eqb j.sequence k.sequence

-- the run has this key; is another; is of this automation; is of another; is queued and of this automation
abbrev pub is_the : Key → Run → Bool
is_the k r = same_key r.key k

abbrev pub is_another : Key → Run → Bool
is_another k r = not (is_the k r)

abbrev pub is_of : Text → Run → Bool
is_of id r = eq_t r.key.rule id

abbrev pub is_apart : Text → Run → Bool
is_apart id r = not (is_of id r)

abbrev pub is_queued : Text → Run → Bool
is_queued id r = is_of id r && r.queued

-- the run waits for this change
abbrev pub waits_for : (entity from to : Text) → Run → Bool
waits_for x from to r = present_and (λ w. matches x from to w.trigger) r.waiting

-- the run as it is, but waiting no more; but executing
abbrev pub as_not_waiting : Run → Run
as_not_waiting r = record { key = r.key; number = r.number; actions = r.actions; waiting = none; queued = r.queued }

abbrev pub as_executing : Run → Run
as_executing r = record { key = r.key; number = r.number; actions = r.actions; waiting = r.waiting; queued = false }

-- the work is the next step of the run with this key; a timeout of it
unfoldable pub steps : Key → Work → Bool
steps k (Work.external i) = false
steps k (Work.changed x from to) = false
steps k (Work.resume j) = same_key j k
steps k (Work.timeout j) = false
steps k (Work.stale x n) = false

unfoldable pub times_out : Key → Work → Bool
times_out k (Work.external i) = false
times_out k (Work.changed x from to) = false
times_out k (Work.resume j) = false
times_out k (Work.timeout j) = same_key j k
times_out k (Work.stale x n) = false

-- how many next steps of the run are queued; how many for this second; how many timeouts for this second
unfoldable pub steps_in : Key → List Item → ℕ
steps_in k = tally (λ i. steps k i.work)

unfoldable pub steps_at : ℕ → Key → List Item → ℕ
steps_at t k = tally (λ i. eqb i.at t && steps k i.work)

unfoldable pub timeouts_at : ℕ → Key → List Item → ℕ
timeouts_at t k = tally (λ i. eqb i.at t && times_out k i.work)

-- the run executes and doesn't wait
unfoldable pub acting : Run → Bool
acting r = not r.queued && absent r.waiting

-- what is queued for a run: one next step if it executes and doesn't wait, else none; if it waits, its timeout
pub record Due (queue : List Item) (r : Run) : Type 0 where
  pub step : steps_in r.key queue ≡ (if acting r then 1 else 0)
  pub timeout : (w : Waiting) → r.waiting ≡ some w → 1 ≤ timeouts_at w.deadline r.key queue

-- a key that was given to a run of the automation already, so that no later run gets it
abbrev pub Given : List Text → Key → Type 0
Given made k = k.sequence < tally (eq_t k.rule) made

-- work for runs is for keys that were given
abbrev pub Meant : List Text → Work → Type 0
Meant made (Work.external i) = Unit {0}
Meant made (Work.changed x from to) = Unit {0}
Meant made (Work.resume k) = Given made k
Meant made (Work.timeout k) = Given made k
Meant made (Work.stale x n) = Unit {0}

-- y was made after x, if both are of one automation
abbrev pub Later : Run → Run → Type 0
Later x y = x.key.rule ≡ y.key.rule → x.key.sequence < y.key.sequence

abbrev pub InOrder : List Run → Type 0
InOrder [] = Unit {0}
InOrder (x ∷ l) = Each (Later x) l × InOrder l

-- an automation's runs, oldest first. Queued: the oldest executes, all others are queued behind it.
-- The other modes: all execute.
abbrev pub InLine : Mode → List Run → Type 0
InLine single l = Each (λ r. r.queued ≡ false) l
InLine Mode.restart l = Each (λ r. r.queued ≡ false) l
InLine queued [] = Unit {0}
InLine queued (x ∷ l) = (x.queued ≡ false) × Each (λ r. r.queued ≡ true) l
InLine parallel l = Each (λ r. r.queued ≡ false) l

-- how many runs of the automation execute or are queued
abbrev pub runs_of : Automation → Engine → ℕ
runs_of a e = tally (is_of a.id) e.runs

-- ---- at each moment

-- an automation's runs
pub record Standing (a : Automation) (e : Engine) : Type 0 where
  -- single and restart: one run at most
  pub single_one : a.mode ≡ single → runs_of a e ≤ 1
  pub restart_one : a.mode ≡ Mode.restart → runs_of a e ≤ 1
  -- queued and parallel: `max` is the greatest number of runs executing and/or queued at one time
  pub queued_max : a.mode ≡ queued → runs_of a e ≤ a.max
  pub parallel_max : a.mode ≡ parallel → runs_of a e ≤ a.max
  -- queued: a run executes after all previous runs have completed, in the order in which they were queued
  pub line : InLine a.mode (keep (is_of a.id) e.runs)

-- ---- a trigger

module _ (now : ℕ) (a : Automation) where
  -- a record about the automation
  abbrev pub message : Kind → Trace
  message k = record { at = now; kind = k; automation = some a.id; source = none; change = none }

  -- the automation's next run, executing or queued: its key is new, it has all actions to do
  abbrev pub next_run : (later : Bool) → Engine → Run
  next_run later e = record {
    key = record { rule = a.id; sequence = tally (eq_t a.id) e.made };
    number = length e.made + 1;
    actions = a.actions;
    waiting = none;
    queued = later;
  }

  -- a new run starts: it comes last, that is recorded, and its first step is due at once
  abbrev pub started : Engine → Engine
  started e =
      let run = next_run false e in
      let step : Item = record { at = now; work = Work.resume run.key } in
      e ▸ add_run run ▸ append (message (Kind.start run.number)) ▸ add step

  -- a new run is queued: it comes last, and that is recorded
  abbrev pub joined : Engine → Engine
  joined e =
      let run = next_run true e in
      e ▸ add_run run ▸ append (message (Kind.queued run.number))

  -- the previous run is stopped, and that is recorded
  abbrev pub stopped : Engine → Engine
  stopped e = e ▸ with_runs (keep (is_apart a.id) e.runs) ▸ append (message Kind.cancel)

-- the automation's conditions are met, and it has no notes (one with notes is unsupported and never starts)
abbrev pub Met : (now : ℕ) → Automation → Engine → Type 0
Met now a e = (evaluate_all (moment now e) a.conditions e.cells ≡ Yes) × (a.notes ≡ [])

-- from the moment at which the automation is triggered, its trigger recorded, to the moment after it
pub record Triggered (now : ℕ) (a : Automation) (e after : Engine) : Type 0 where
  -- conditions are asked when it is triggered: if they aren't met, nothing happens; if that is unknown, only a reason is
  -- given; and an automation with notes never starts
  pub denied : evaluate_all (moment now e) a.conditions e.cells ≡ No → after ≡ e
  pub unclear : evaluate_all (moment now e) a.conditions e.cells ≡ Unknown
      → after ≡ uncertain (unknown_trigger_condition a.id) e
  pub noted : evaluate_all (moment now e) a.conditions e.cells ≡ Yes → (a.notes ≡ [] → ⊥) → after ≡ e
  -- no run is going: a new run starts
  pub first : Met now a e → runs_of a e ≡ 0 → after ≡ started now a e
  -- single: no new run starts, a warning is issued, and nothing else happens
  pub single_warns : Met now a e → a.mode ≡ single → 1 ≤ runs_of a e → after ≡ append (message now a Kind.single_running) e
  -- restart: the previous run is stopped first, then a new run starts
  pub restarts : Met now a e → a.mode ≡ Mode.restart → 1 ≤ runs_of a e → after ≡ started now a (stopped now a e)
  -- queued: the new run joins the queue
  pub queues : Met now a e → a.mode ≡ queued → 1 ≤ runs_of a e → runs_of a e < a.max → after ≡ joined now a e
  -- parallel: a new, independent run starts beside the previous ones
  pub beside : Met now a e → a.mode ≡ parallel → runs_of a e < a.max → after ≡ started now a e
  -- when `max` is exceeded, the new trigger starts nothing and a message is logged
  pub full : Met now a e → (a.mode ≡ queued) ⊎ (a.mode ≡ parallel) → a.max ≤ runs_of a e
      → after ≡ append (message now a Kind.max_reached) e
  -- no other automation's run is touched
  pub apart : keep (is_apart a.id) after.runs ≡ keep (is_apart a.id) e.runs

-- the record of a trigger, with what its conditions came to
abbrev pub asked : (now : ℕ) → Automation → Engine → Engine
asked now a e = append (record {
  at = now;
  kind = Kind.trigger (evaluate_all (moment now e) a.conditions e.cells);
  automation = some a.id;
  source = some a.source;
  change = none;
}) e

-- an automation is offered a change: it is triggered if one of its triggers matches
pub record Offered (now : ℕ) (x from to : Text) (a : Automation) (e : Engine) : Type 0 where
  pub matched : any (matches x from to) a.triggers ≡ true → Triggered now a (asked now a e) (offer now x from to a e)
  pub unmatched : any (matches x from to) a.triggers ≡ false → offer now x from to a e ≡ e

-- ---- all other work

-- the work is no change of an entity
abbrev pub NoChange : Work → Type 0
NoChange (Work.external i) = Unit {0}
NoChange (Work.changed x from to) = ⊥
NoChange (Work.resume k) = Unit {0}
NoChange (Work.timeout k) = Unit {0}
NoChange (Work.stale x n) = Unit {0}

-- a run with this key is queued
unfoldable pub waits_in_line : List Run → Key → Bool
waits_in_line l k = any (λ r. r.queued && is_the k r) l

-- from a moment at which the loop takes an item out to the moment after it: a run that was queued and now executes has its
-- first step due at once
abbrev pub GoesOn : (now : ℕ) → Engine → Engine → Type 0
GoesOn now e after =
    Each (λ r. waits_in_line e.runs r.key ≡ true → r.queued ≡ false → 1 ≤ steps_at now r.key after.queue)
    after.runs

-- the list holds what it held, and more behind it
abbrev pub Grown : {A : Type 0} → List A → List A → Type 0
Grown {A} l m = (more : List A) × (m ≡ l ++ more)

-- a run has ended: of the others, the first of its automation that is queued executes
unfoldable pub next_in_line : Text → List Run → List Run
next_in_line id l = elim (find (is_queued id) l) [
  | none ↦ l
  | some s ↦ each (λ r. if is_the s.key r then as_executing s else r) l
]

-- a run's step or timeout, from the runs before it to those after it: the run goes on or ends. No other run is touched,
-- but the one that executes as this one ends.
pub data Worked (k : Key) (before after : List Run) : Type 0 where
  goes_on : keep (is_another k) after ≡ keep (is_another k) before → Worked k before after
  ends : after ≡ next_in_line k.rule (keep (is_another k) before) → Worked k before after

-- the step of a run: if it executes and doesn't wait, it carries out its next action and has those behind it left, or it
-- ends if there is none; otherwise nothing happens
pub record Stepped (now : ℕ) (r : Run) (e after : Engine) : Type 0 where
  pub acts : acting r ≡ true → (source : Source) (effect : Effect) (rest : Actions) → r.actions ≡ act source effect rest
      → after ≡ (e ▸ store (left rest r) ▸ perform now effect source (left rest r))
  pub ends : acting r ≡ true → r.actions ≡ done → after ≡ finish now r e
  pub rests : acting r ≡ false → after ≡ e

-- ---- the page

pub record Page (m : Model) (e : Engine) : Type 0 where
  -- each automation's runs are as many as they may be, and in line
  pub standing : {a : Automation} → Memᴰ a m.rules → Standing a e
  -- runs stand in the order in which they were made
  pub order : InOrder e.runs
  -- what is queued for a run: its next step, its timeout, or nothing
  pub due : Each (Due e.queue) e.runs
  -- no key is used again, so that what was queued for a run that has ended moves no later run
  pub given : Each (λ r. Given e.made r.key) e.runs
  pub meant : Each (λ i. Meant e.made i.work) e.queue
  -- a change: the runs that wait for it wait no more, all others stay as they are; then each automation is offered it, in
  -- the file's order
  pub wakes : (now : ℕ) (x from to : Text) → (wake now x from to e).runs ≡
      each (λ r. if waits_for x from to r then as_not_waiting r else r) e.runs
  pub offers : (now : ℕ) (x from to : Text)
      → process now m.rules (Work.changed x from to) e ≡
      through (offer now x from to) m.rules (wake now x from to e)
  pub offered : {a : Automation} → Memᴰ a m.rules → (now : ℕ) (x from to : Text) (s : Engine)
      → Offered now x from to a s
  -- other work asks no automation's conditions: with other automations it would do the same; and it makes no run
  pub unasked : (now : ℕ) (w : Work) → NoChange w → (others : List Automation)
      → process now m.rules w e ≡ process now others w e
  pub unmade : (now : ℕ) (w : Work) → NoChange w → (process now m.rules w e).made ≡ e.made
  -- a run that executes does act, in the order of its actions
  pub stepped : (now : ℕ) (k : Key) (r : Run) → find (is_the k) e.runs ≡ some r
      → Stepped now r e (process now m.rules (Work.resume k) e)
  -- a run's step or timeout touches no other run, but the next in line as the run ends
  pub step_alone : (now : ℕ) (k : Key) → Worked k e.runs (process now m.rules (Work.resume k) e).runs
  pub timeout_alone : (now : ℕ) (k : Key) → Worked k e.runs (process now m.rules (Work.timeout k) e).runs
  -- after such work a run that was queued and now executes has its first step due at once
  pub acts_at_once : (i : Item) (l : List Item) → pop e.queue ≡ some (i, l) → NoChange i.work
      → GoesOn i.at e (process i.at m.rules i.work (with_queue l e))
  -- what is left of a run that has ended or was stopped does nothing
  pub gone : (now : ℕ) (k : Key) → find (is_the k) e.runs ≡ none
      → (process now m.rules (Work.resume k) e ≡ e) × (process now m.rules (Work.timeout k) e ≡ e)
  -- writes and expiries touch no run; a restart or reload of Home Assistant stops all
  pub writes : (now : ℕ) (x v : Text) → (process now m.rules (Work.external (Input.set x v)) e).runs ≡ e.runs
  pub expires : (now : ℕ) (x : Text) (n : ℕ) → (process now m.rules (Work.stale x n) e).runs ≡ e.runs
  pub restarts : (now : ℕ) → (process now m.rules (Work.external Input.restart) e).runs ≡ []
  pub reloads : (now : ℕ) → (process now m.rules (Work.external reload) e).runs ≡ []
  -- no record is taken back, and no run made is forgotten
  pub recorded : (now : ℕ) (w : Work) → Grown e.trace (process now m.rules w e).trace
  pub counted : (now : ℕ) (w : Work) → Grown e.made (process now m.rules w e).made
  -- the loop takes out the first of the earliest items, and the work only adds behind the others: no queued step is lost,
  -- moved or put off
  pub kept : (i : Item) (l : List Item) → pop e.queue ≡ some (i, l)
      → Grown l (process i.at m.rules i.work (with_queue l e)).queue

-- a simulation, from given cells and with given events: the page holds at each of its moments, of which each follows from
-- the one before, up to its end
pub record ByThePage (areas : Areas) (m : Model) (cells : List Cell) (events : List Event) : Type 0 where
  pub moments : (n : ℕ) → Page m (after_items areas m cells events n)
  pub at_first : after_items areas m cells events 0 ≡ begun areas m.start cells (unsupported m.rules) events
  pub at_next : (n : ℕ) → after_items areas m cells events (suc n) ≡ next_moment m (after_items areas m cells events n)
  pub at_last : (ended areas m cells events).engine.runs ≡
      (after_items areas m cells events m.scenario.limits.max_steps).runs
