-- Runs that begin, and what the modes decide.
use Rattle.std.specs.Prelude.{ℕ, Bool, true, false, None, List, ltb, leb, eqb, get_or, replicate, if◌then◌else◌}
use Rattle.layout.specs.Table.{actions_word, max_word, mode_word}
use Rattle.records.specs.Kinds.{cancel_kind, max_reached_kind, queued_kind, single_running_kind, start_kind}
use Rattle.runs.specs.Lists.{tally, keep}
use Rattle.runs.specs.Runs.{run_of, other}
use Rattle.runs.specs.declared.Run.{Run}
use Rattle.engine_fields.specs.Fields.{word}
use Rattle.engine_evaluate.specs.Actions.{list_m}
use Rattle.engine_state.specs.Machine.{Machine, more, put_runs}
use Rattle.engine_state.specs.Changes.{log_rule_m, add_run_m, next_step_m}
use Rattle.engine_modes.specs.declared.Decision.{Decision}
use Rattle.engine_modes.specs.declared.Decision.TheVariants.{
  AlreadyRunning,
  MaxReached,
  Start,
  StopAndStart,
  WaitInLine,
}

-- the run goes on at once
abbrev pub now_m : Run → Machine → Machine
now_m r m = next_step_m r m.now m

-- ---- runs that begin

unfoldable pub new_run : (f x : List ℕ) → (i : ℕ) → Bool → (made : ℕ) → (sequences : List ℕ) → Run
new_run f x i later made sequences =
    list_m f (record {
      automation = i;
      sequence = get_or sequences i 0;
      number = more made;
      queued = later;
      phase = None;
      depth = 0;
      places = replicate 17 0;
    }) (word x i actions_word)

unfoldable pub begin_run_m : (i : ℕ) → Run → Machine → Machine
begin_run_m i r m = now_m r (log_rule_m start_kind r.number r.automation (add_run_m i r m))

unfoldable pub begin_now_m : (f x : List ℕ) → (i : ℕ) → Machine → Machine
begin_now_m f x i m = begin_run_m i (new_run f x i false m.runs_created m.sequences) m

unfoldable pub begin_queued_m : (i : ℕ) → Run → Machine → Machine
begin_queued_m i r m = log_rule_m queued_kind r.number r.automation (add_run_m i r m)

unfoldable pub begin_later_m : (f x : List ℕ) → (i : ℕ) → Machine → Machine
begin_later_m f x i m = begin_queued_m i (new_run f x i true m.runs_created m.sequences) m

-- the automation's runs go
unfoldable pub drop_m : (automation : ℕ) → Machine → Machine
drop_m i m = put_runs (keep (other i) m.runs) m

unfoldable pub stop_start_m : (f x : List ℕ) → (i : ℕ) → Machine → Machine
stop_start_m f x i m = begin_now_m f x i (log_rule_m cancel_kind 0 i (drop_m i m))

-- ---- modes

-- modes: 0 single, 1 restart, 2 queued, 3 parallel
unfoldable pub decide_m : (mode max running : ℕ) → Decision
decide_m mode max running =
    if ltb mode 2 then (if eqb running 0 then Start else if eqb mode 0 then AlreadyRunning else StopAndStart)
    else if leb max running then MaxReached
    else if eqb mode 3 then Start
    else if eqb running 0 then Start
    else WaitInLine

unfoldable pub decided_m : (f x : List ℕ) → (i : ℕ) → Decision → Machine → Machine
decided_m f x i AlreadyRunning m = log_rule_m single_running_kind 0 i m
decided_m f x i MaxReached m = log_rule_m max_reached_kind 0 i m
decided_m f x i Start m = begin_now_m f x i m
decided_m f x i StopAndStart m = stop_start_m f x i m
decided_m f x i WaitInLine m = begin_later_m f x i m

-- with so many runs of the automation
unfoldable pub carry_with_m : (f x : List ℕ) → (i running : ℕ) → Machine → Machine
carry_with_m f x i n m = decided_m f x i (decide_m (word x i mode_word) (word x i max_word) n) m

unfoldable pub carry_out_m : (f x : List ℕ) → (i : ℕ) → Machine → Machine
carry_out_m f x i m = carry_with_m f x i (tally (run_of i) m.runs) m
