-- What the machine's numbers stand for: texts, cells, items, records and runs of the definition.
-- A place is a text's number among `ts`, an automation is a row of the table x, a position is one of the file f.
-- `Maybe`, `None` and `Some` are the code's option, `Option`, `none` and `some` the definition's.
use Rattle.std.specs.Prelude.{ℕ, zero, suc, ◌+◌, ◌≤◌, ◌<◌, ◌≡◌, true, Option as Maybe, Some, None, List, [], ◌∷◌, ◌++◌, eqb, length, get_or, if◌then◌else◌}
use Rattle.std.proofs.Math.Option.{Option, none, some}
use Rattle.layout.specs.Table.{
  actions_word,
  automation_count_word,
  conditions_word,
  entity_count_word,
  horizon_word,
  id_word,
  max_steps_word,
  max_word,
  mode_word,
  notes_word,
  off_word,
  on_word,
  source_word,
  text_count_word,
  triggers_word,
  unavailable_word,
  unknown_word,
}
use Rattle.layout.specs.Sizes.{simulation_reasons}
use Rattle.texts.specs.Lists.{flat, all}
use Rattle.texts.specs.Texts.{Text, text, eq_t}
use Rattle.texts.specs.Places.{text_at, start_from}
use Rattle.model_spec.specs.Answer.{answer}
use Rattle.model_spec.specs.Model.{
  Source,
  Trigger,
  Mode,
  single,
  queued,
  parallel,
  Entity,
  Actions,
  done,
  Automation,
  Input,
  reload,
  Model,
}
use Rattle.model_spec.specs.Windows.{windowless_invariant}
use Rattle.model_spec.specs.File.{Got, got, broken, counted, source, place, predicate, trigger, actions_of, actions}
use Rattle.model_spec.specs.Notes.{of_actions}
use Rattle.model_spec.specs.Validate.{check_actions}
use Rattle.model_parts.specs.Stand.{Reads}
use Rattle.model_order.specs.Order.{Fixed}
use Rattle.queue.specs.declared.Item.{Item as QItem}
use Rattle.queue.specs.declared.Work.{Work as QWork}
use Rattle.queue.specs.declared.Work.TheVariants as queue
use Rattle.records.specs.declared.Source.{Source as RecordSource}
use Rattle.records.specs.declared.Write.{Write}
use Rattle.records.specs.declared.Record.{Record}
use Rattle.runs.specs.Runs.{place_in}
use Rattle.runs.specs.declared.Place.{Place}
use Rattle.runs.specs.declared.Run.{Run as ARun}
use Rattle.runs.specs.declared.Wait.{Wait}
use Rattle.runs.specs.declared.Source.{Source as ASource}
use Rattle.engine_spec.specs.Cells.{Cell}
use Rattle.engine_spec.specs.Kleene as kleene
use Rattle.engine_spec.specs.Records.{Key, Waiting, Run, Work, Item, Kind, Change, Trace}
use Rattle.engine_spec.specs.Reasons.{
  unknown_trigger_condition,
  toggle_of_unknown,
  unknown_action_condition,
  unknown_choose_condition,
  unsupported_wait,
}
use Rattle.engine_spec.specs.Unsupported.{unsupported}
use Rattle.engine_spec.specs.Engine.{◌then◌}
use Rattle.reasons.specs.Readable.{text_count}
use Rattle.engine_window.specs.Window.{start_m}
use Rattle.engine_fields.specs.Fields.{name, stale, word, entities}
use Rattle.engine_evaluate.specs.declared.Truth.{Truth}
use Rattle.engine_evaluate.specs.declared.Truth.TheVariants as truth

abbrev pub truth_of : Truth → kleene.Truth
truth_of truth.Yes = kleene.Yes
truth_of truth.No = kleene.No
truth_of truth.Unknown = kleene.Unknown

-- a verdict's number in a record
unfoldable pub verdict_of : ℕ → kleene.Truth
verdict_of n = if eqb n 0 then kleene.Yes else if eqb n 1 then kleene.No else kleene.Unknown

-- the value that a reader found
unfoldable pub found_actions : Got Actions → Actions
found_actions (got a q) = a
found_actions broken = done

unfoldable pub found_trigger : Got Trigger → Trigger
found_trigger (got t q) = t
found_trigger broken = record { entity = []; from = none; to = none; source = record { line = 0; column = 0 }; note = none }

-- the seconds after which a value is stale
unfoldable pub stale_of : ℕ → Option ℕ
stale_of w = if eqb w 4294967295 then none else some w

abbrev pub source_of : ASource → Source
source_of s = record { line = s.line; column = s.column }

abbrev pub where_of : Maybe RecordSource → Option Source
where_of None = none
where_of (Some s) = some (record { line = s.line; column = s.column })

-- the places of a change are those of texts
abbrev pub Placed : List Text → Maybe Write → Type 0
Placed ts None = Unit {0}
Placed ts (Some w) = (w.entity < length ts) × ((w.before < length ts) × (w.after < length ts))

module _ (x : List ℕ) (ts : List Text) where
  -- the automation's identifier
  unfoldable pub id_at : ℕ → Text
  id_at i = get_or ts (word x i id_word) []

  unfoldable pub key_of : (automation sequence : ℕ) → Key
  key_of a n = record { rule = id_at a; sequence = n }

  -- ---- cells, by entity, from the values and versions

  unfoldable pub cell_at : (values versions : List ℕ) → ℕ → Cell
  cell_at vs ns e = record {
    name = get_or ts (name x e) [];
    stale_after = stale_of (stale x e);
    value =
        get_or ts (get_or vs e 0) [];
    version = get_or ns e 0;
  }

  unfoldable pub cells_from : (values versions : List ℕ) → (left e : ℕ) → List Cell
  cells_from vs ns zero e = []
  cells_from vs ns (suc left) e = cell_at vs ns e ∷ cells_from vs ns left (e + 1)

  unfoldable pub cells_of : (values versions : List ℕ) → List Cell
  cells_of vs ns = cells_from vs ns (entities x) 0

  -- ---- the queue

  unfoldable pub work_of : QWork → Work
  work_of (queue.Set e v) = Work.external (Input.set (get_or ts e []) (get_or ts v []))
  work_of queue.Restart = Work.external Input.restart
  work_of queue.Reload = Work.external reload
  work_of (queue.Changed e v u) = Work.changed (get_or ts e []) (get_or ts v []) (get_or ts u [])
  work_of (queue.Resume a n) = Work.resume (key_of a n)
  work_of (queue.Timeout a n) = Work.timeout (key_of a n)
  work_of (queue.Stale e n) = Work.stale (get_or ts e []) n

  unfoldable pub item_of : QItem → Item
  item_of i = record { at = i.second; work = work_of i.work }

  -- ---- records

  unfoldable pub kind_of : (kind detail : ℕ) → Kind
  kind_of k d =
      if eqb k 0 then Kind.initial
      else if eqb k 1 then Kind.external
      else if eqb k 2 then Kind.action
      else if eqb k 3 then Kind.stale
      else if eqb k 4 then Kind.restart
      else if eqb k 5 then Kind.cancel
      else if eqb k 6 then Kind.single_running
      else if eqb k 7 then Kind.max_reached
      else if eqb k 8 then Kind.choose
      else if eqb k 9 then Kind.horizon
      else if eqb k 10 then Kind.trigger (verdict_of d)
      else if eqb k 11 then Kind.condition (verdict_of d)
      else if eqb k 12 then Kind.start d
      else if eqb k 13 then Kind.queued d
      else if eqb k 14 then Kind.complete d
      else if eqb k 15 then Kind.delay d
      else if eqb k 16 then Kind.wait d
      else if eqb k 17 then Kind.timeout (eqb d 1)
      else Kind.unknown (get_or ts d [])

  abbrev pub rule_of : Maybe ℕ → Option Text
  rule_of None = none
  rule_of (Some a) = some (id_at a)

  abbrev pub change_of : Maybe Write → Option Change
  change_of None = none
  change_of (Some w) = some (record { entity = get_or ts w.entity []; before = get_or ts w.before []; after = get_or ts w.after [] })

  unfoldable pub record_of : Record → Trace
  record_of r = record {
    at = r.second;
    kind = kind_of r.kind r.detail;
    automation = rule_of r.rule;
    source = where_of r.source;
    change = change_of r.change;
  }

  -- ---- runs, over the file f
  module _ (f : List ℕ) where
    -- as many actions as are left at a position
    unfoldable pub list_of : Place → Actions
    list_of p = found_actions (actions_of ts (actions ts 17) p.left f p.position)

    -- the list at the topmost place, and then those below
    unfoldable pub actions_at : (depth : ℕ) → (places : List ℕ) → Actions
    actions_at zero l = done
    actions_at (suc d) l = list_of (place_in (get_or l d 0)) then actions_at d l

    unfoldable pub wait_of : Wait → Waiting
    wait_of w = record {
      trigger = found_trigger (trigger ts f w.trigger);
      deadline = w.deadline;
      continue =
          w.continue_on_timeout;
      source = source_of w.source;
    }

    abbrev pub waiting_of : Maybe Wait → Option Waiting
    waiting_of None = none
    waiting_of (Some w) = some (wait_of w)

    unfoldable pub meant_run : ARun → Run
    meant_run r = record {
      key = key_of r.automation r.sequence;
      number = r.number;
      actions = actions_at r.depth r.places;
      waiting = waiting_of r.phase;
      queued = r.queued;
    }

-- ---- the reasons that a simulation may give

unfoldable pub rule_pool : Automation → List Text
rule_pool r =
    unknown_trigger_condition r.id
    ∷ toggle_of_unknown r.id
    ∷ unknown_action_condition r.id
    ∷ unknown_choose_condition r.id
    ∷ of_actions r.actions

unfoldable pub pool_of : Model → List Text
pool_of m = unsupported m.rules ++ unsupported_wait ∷ flat rule_pool m.rules

-- ---- the table of a model

unfoldable pub mode_number : Mode → ℕ
mode_number single = 0
mode_number Mode.restart = 1
mode_number queued = 2
mode_number parallel = 3

-- the i-th row of the table is the automation r of a model with the entities es
pub record Row (f x : List ℕ) (ts : List Text) (es : List Entity) (i : ℕ) (r : Automation) : Type 0 where
  pub id_in : word x i id_word < length ts
  pub id : r.id ≡ get_or ts (word x i id_word) []
  pub mode : word x i mode_word ≡ mode_number r.mode
  pub max : word x i max_word ≡ r.max
  pub triggers : Reads (counted (trigger ts)) f (word x i triggers_word) r.triggers
  pub conditions : Reads (counted (predicate ts)) f (word x i conditions_word) r.conditions
  pub actions : Reads (actions ts 18) f (word x i actions_word) r.actions
  pub source : Reads source f (word x i source_word) r.source
  pub notes : Reads (counted (place ts)) f (word x i notes_word) r.notes
  -- the actions were checked, after some number of others
  pub before : ℕ
  pub after : ℕ
  pub checked : check_actions es r.actions 0 before ≡ answer after

-- the e-th name and expiry of the table are those of the entity d
pub record Column (x : List ℕ) (ts : List Text) (e : ℕ) (d : Entity) : Type 0 where
  pub name_in : name x e < length ts
  pub name_is : d.name ≡ get_or ts (name x e) []
  pub stale_is : d.stale_after ≡ stale_of (stale x e)
  pub soon : (stale x e ≡ 4294967295 → ⊥) → stale x e ≤ 86400

-- the table x of the file f with the texts ts is that of the accepted model m
pub record Tabled (f x : List ℕ) (ts : List Text) (m : Model) : Type 0 where
  -- the file: a byte below 256, at most 32,768 of them; the texts differ
  pub size : length f ≤ 32768
  pub bytes : (i : ℕ) → get_or f i 0 < 256
  pub same : (i j : ℕ) → i < length ts → j < length ts → eq_t (get_or ts i []) (get_or ts j []) ≡ eqb i j
  pub texts : get_or x text_count_word 0 ≡ length ts
  pub few_texts : length ts ≤ 65535
  pub counted : text_count f ≡ length ts
  pub placed_text : (k : ℕ) → k < length ts → text_at f (start_from f 6 k) ≡ get_or ts k []
  pub on : Fixed ts (get_or x on_word 0) (text "on")
  pub off : Fixed ts (get_or x off_word 0) (text "off")
  pub unknown : Fixed ts (get_or x unknown_word 0) (text "unknown")
  pub unavailable : Fixed ts (get_or x unavailable_word 0) (text "unavailable")
  -- the numbers
  pub entities : get_or x entity_count_word 0 ≡ length m.scenario.entities
  pub few_entities : length m.scenario.entities ≤ 32
  pub automations : get_or x automation_count_word 0 ≡ length m.rules
  pub few_automations : length m.rules ≤ 32
  pub horizon : get_or x horizon_word 0 ≡ m.scenario.limits.horizon
  pub day : m.scenario.limits.horizon ≤ 86400
  pub steps : get_or x max_steps_word 0 ≡ m.scenario.limits.max_steps
  pub few_steps : m.scenario.limits.max_steps ≤ 10000
  pub start : start_m x ≡ m.start
  -- the parts
  pub columns : (d : Entity) (e : ℕ) → e < length m.scenario.entities → Column x ts e (get_or m.scenario.entities e d)
  pub rows : (d : Automation) (i : ℕ) → i < length m.rules → Row f x ts m.scenario.entities i (get_or m.rules i d)
  -- names and identifiers differ
  pub names_differ : (i j : ℕ) → i < length m.scenario.entities → j < length m.scenario.entities →
      name x i ≡ name x j → i ≡ j
  pub ids_differ : (i j : ℕ) → i < length m.rules → j < length m.rules → word x i id_word ≡ word x j id_word → i ≡ j
  -- a file has at most 64 notes, so the reasons have room
  pub few_reasons : length (pool_of m) ≤ simulation_reasons
  -- no invariant has a window
  pub stated : all windowless_invariant m.scenario.invariants ≡ true
