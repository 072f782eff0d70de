-- engine.rs: what the engine holds.
use Rattle.std.specs.Prelude.{ℕ, Bool, List, [], ◌++◌, if◌then◌else◌}
use Rattle.std.proofs.Math.Option.{Option}
use Rattle.texts.specs.Texts.{Text, text, decimal, all_texts}
use Rattle.model_spec.specs.Model.{Source, Moment, Trigger, Actions, Input}
use Rattle.engine_spec.specs.Cells.{Cell}
use Rattle.engine_spec.specs.Kleene.{Truth}
use Rattle.engine_spec.specs.Truth.{truth_name}

-- a run is named by its automation and its place among that automation's runs, from 0
pub record Key : Type 0 where
  pub rule : Text
  pub sequence : ℕ

-- a wait: its trigger, the second of its timeout, whether the run goes on then, and the action's source
pub record Waiting : Type 0 where
  pub trigger : Trigger
  pub deadline : ℕ
  pub continue : Bool
  pub source : Source

-- a run; `number` is Rust's run number, over all automations from 1, and is only written into records
pub record Run : Type 0 where
  pub key : Key
  pub number : ℕ
  pub actions : Actions
  pub waiting : Option Waiting
  pub queued : Bool

pub data Work : Type 0 where
  external : Input → Work
  changed : (entity from to : Text) → Work
  resume : Key → Work
  timeout : Key → Work
  stale : (entity : Text) (version : ℕ) → Work

-- an entry of the queue
pub record Item : Type 0 where
  pub at : ℕ
  pub work : Work

-- a record's kind, with what its detail says; Rust has two texts, below
pub data Kind : Type 0 where
  initial external action stale restart cancel single_running max_reached choose horizon : Kind
  trigger : (verdict : Truth) → Kind
  condition : (verdict : Truth) → Kind
  start queued complete : (run : ℕ) → Kind
  delay : (seconds : ℕ) → Kind
  wait : (timeout : ℕ) → Kind
  timeout : (continue : Bool) → Kind
  unknown : (reason : Text) → Kind

unfoldable pub kind_name : Kind → Text
kind_name Kind.initial = text "initial"
kind_name Kind.external = text "external"
kind_name Kind.action = text "action"
kind_name Kind.stale = text "stale"
kind_name Kind.restart = text "restart"
kind_name Kind.cancel = text "cancel"
kind_name Kind.single_running = text "ignored"
kind_name Kind.max_reached = text "ignored"
kind_name Kind.choose = text "choose"
kind_name Kind.horizon = text "horizon"
kind_name (Kind.trigger v) = text "trigger"
kind_name (Kind.condition v) = text "condition"
kind_name (Kind.start n) = text "start"
kind_name (Kind.queued n) = text "queued"
kind_name (Kind.complete n) = text "complete"
kind_name (Kind.delay n) = text "delay"
kind_name (Kind.wait n) = text "wait"
kind_name (Kind.timeout b) = text "timeout"
kind_name (Kind.unknown r) = text "unknown"

unfoldable pub detail : Kind → Text
detail Kind.initial = []
detail Kind.external = []
detail Kind.action = []
detail Kind.stale = text "modeled freshness expired"
detail Kind.restart = text "cancel all runs; preserve entity state"
detail Kind.cancel = text "restart mode"
detail Kind.single_running = text "single mode already running"
detail Kind.max_reached = text "run max reached"
detail Kind.choose = text "selected branch"
detail Kind.horizon = text "observation boundary"
detail (Kind.trigger v) = text "conditions " ++ truth_name v
detail (Kind.condition v) = truth_name v
detail (Kind.start n) = text "run " ++ decimal n
detail (Kind.queued n) = text "run " ++ decimal n
detail (Kind.complete n) = text "run " ++ decimal n
detail (Kind.delay n) = decimal n ++ text " seconds"
detail (Kind.wait n) = text "timeout " ++ decimal n
detail (Kind.timeout b) = text "continue " ++ (if b then text "true" else text "false")
detail (Kind.unknown r) = r

pub record Change : Type 0 where
  pub entity : Text
  pub before : Text
  pub after : Text

-- a record. Rust's `index` is its place in the list. Rust's `state` isn't held: whoever reads the records carries it along.
pub record Trace : Type 0 where
  pub at : ℕ
  pub kind : Kind
  pub automation : Option Text
  pub source : Option Source
  pub change : Option Change

-- how many entries the lent areas hold
pub record Areas : Type 0 where
  pub queue : ℕ
  pub records : ℕ
  pub runs : ℕ

-- The queue is in order of insertion, the runs in order of making. `made` lists the automation of each run made so far.
-- `overflow` notes the first insertion that its area had no place for; the entry goes in all the same. `start` is the moment
-- of second 0.
pub record Engine : Type 0 where
  pub cells : List Cell
  pub queue : List Item
  pub runs : List Run
  pub made : List Text
  pub trace : List Trace
  pub unknown : List Text
  pub overflow : Option ℕ
  pub areas : Areas
  pub start : Moment

-- opens the file, for proofs by computation
unfoldable pub all_records : Unit {0}
unfolding all_texts truth_name kind_name detail
all_records = tt
