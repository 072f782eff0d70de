-- The primitive changes of a machine. Nothing goes into an area once one was full.
use Rattle.std.specs.Prelude.{ℕ, Option, Some, None, List, [], ◌∷◌, ◌++◌, ltb, eqb, length, get_or, set, if◌then◌else◌}
use Rattle.layout.specs.Sizes.{last_simulation_reason}
use Rattle.queue.specs.declared.Item.{Item}
use Rattle.queue.specs.declared.Work.{Work}
use Rattle.queue.specs.declared.Work.TheVariants.{Resume}
use Rattle.records.specs.declared.Source.{Source as RecordSource}
use Rattle.records.specs.declared.Write.{Write}
use Rattle.records.specs.declared.Record.{Record}
use Rattle.runs.specs.declared.Run.{Run}
use Rattle.runs.specs.declared.Source.{Source}
use Rattle.reasons.specs.declared.Reason.{Reason}
use Rattle.reasons.specs.Reasons.{render}
use Rattle.reasons.specs.Lists.{push_t}
use Rattle.engine_state.specs.declared.Cells.{Cells}
use Rattle.engine_state.specs.declared.Told.{Told}
use Rattle.engine_state.specs.declared.Move.{Move}
use Rattle.engine_state.specs.declared.Setting.{Setting}
use Rattle.engine_state.specs.Machine.{
  Machine,
  more,
  put_full,
  put_counts,
  put_cells,
  put_queue,
  put_records,
  put_runs,
  put_reasons,
}

abbrev pub item : (second : ℕ) → Work → Item
item s w = record { second = s; work = w }

abbrev pub entry : (second : ℕ) → Told → Option ℕ → Option RecordSource → Option Write → Record
entry s t u w c = record { second = s; kind = t.kind; detail = t.detail; number = 0; rule = u; source = w; change = c }

abbrev pub saying : (kind detail : ℕ) → Told
saying k d = record { kind = k; detail = d }

abbrev pub set_cells : Cells → Machine → Machine
set_cells = put_cells

-- an item more; 41: the queue is full
unfoldable pub add_m : (second : ℕ) → Work → Machine → Machine
add_m s w m =
    if eqb m.«overflow» 0 then
    (if ltb (length m.queue) m.queue_size then put_queue (m.queue ++ item s w ∷ []) m else put_full 41 m)
    else m

-- a record more; 42: no room for records
unfoldable pub log_m : Told → Option ℕ → Option RecordSource → Option Write → Machine → Machine
log_m t u w c m =
    if eqb m.«overflow» 0 then
    (if ltb (length m.records) m.record_size then put_records (m.records ++ entry m.now t u w c ∷ []) m
    else put_full 42 m)
    else m

-- a run more, which its automation counts; 43: no room for runs
unfoldable pub add_run_m : (i : ℕ) → Run → Machine → Machine
add_run_m i r m =
    if eqb m.«overflow» 0 then
    (if ltb (length m.runs) m.run_size then put_counts (more m.runs_created)
    (set m.sequences i (more (get_or m.sequences i 0))) (put_runs (m.runs ++ r ∷ []) m) else put_full 43 m)
    else m

-- a reason more over the file f, unless there are 300
unfoldable pub uncertain_m : List ℕ → Reason → Machine → Machine
uncertain_m f r m = if ltb last_simulation_reason (length m.reasons) then m
    else put_reasons (push_t (render f r) m.reasons) m

-- ---- records

unfoldable pub log_rule_m : (kind detail automation : ℕ) → Machine → Machine
log_rule_m k d a = log_m (saying k d) (Some a) None None

unfoldable pub log_action_m : (kind detail : ℕ) → Source → Run → Machine → Machine
log_action_m k d s r = log_m (saying k d) (Some r.automation) (Some (record { line = s.line; column = s.column })) None

unfoldable pub log_plain_m : (kind : ℕ) → Machine → Machine
log_plain_m k = log_m (saying k 0) None None None

unfoldable pub log_write_m : Setting → Move → Machine → Machine
log_write_m w v = log_m (saying w.kind 0) w.rule w.source (Some (record { entity = v.entity; before = v.from; after = v.to }))

-- the run goes on at a second
unfoldable pub next_step_m : Run → (second : ℕ) → Machine → Machine
next_step_m r s = add_m s (Resume r.automation r.sequence)
