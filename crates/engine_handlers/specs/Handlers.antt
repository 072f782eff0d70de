-- The other work of a simulation.
use Rattle.std.specs.Prelude.{ℕ, Option, Some, None, List, [], ltb, eqb, get_or, if◌then◌else◌}
use Rattle.layout.specs.Table.{unknown_word}
use Rattle.records.specs.Kinds.{restart_kind, timeout_kind}
use Rattle.runs.specs.Lists.{place_from}
use Rattle.runs.specs.Runs.{is_run}
use Rattle.runs.specs.declared.Run.{Run}
use Rattle.runs.specs.declared.Wait.{Wait}
use Rattle.engine_fields.specs.Fields.{name, entity_of}
use Rattle.engine_state.specs.declared.Cells.{Cells}
use Rattle.engine_state.specs.Machine.{Machine, put_cells, put_runs, stored_m}
use Rattle.engine_state.specs.Changes.{log_action_m, log_plain_m, log_write_m}
use Rattle.engine_update.specs.Update.{cells, move, setting, changed_m, update_m}
use Rattle.engine_modes.specs.Modes.{now_m}
use Rattle.engine_trigger.specs.Runs.{run_m, put_run_m, phase_m, finish_m}

-- the wait's time is up: the run goes on, or it ends
unfoldable pub over_on_m : (k : ℕ) → Run → Wait → Machine → Machine
over_on_m k r w m = now_m r (put_run_m k (phase_m None r) (log_action_m timeout_kind 1 w.source r m))

unfoldable pub over_end_m : (k : ℕ) → Run → Wait → Machine → Machine
over_end_m k r w m = finish_m k (log_action_m timeout_kind 0 w.source r m)

unfoldable pub wait_over_m : (k : ℕ) → Run → Wait → Machine → Machine
wait_over_m k r w m = if eqb w.deadline m.now
    then (if w.continue_on_timeout then over_on_m k r w m else over_end_m k r w m) else m

unfoldable pub time_phase_m : (k : ℕ) → Run → Option Wait → Machine → Machine
time_phase_m k r None m = m
time_phase_m k r (Some w) m = wait_over_m k r w m

unfoldable pub time_run_m : (k : ℕ) → Run → Machine → Machine
time_run_m k r m = time_phase_m k r r.phase m

unfoldable pub time_at_m : Option ℕ → Machine → Machine
time_at_m (Some k) m = time_run_m k (run_m k m) m
time_at_m None m = m

unfoldable pub time_out_m : (automation sequence : ℕ) → Machine → Machine
time_out_m a n m = time_at_m (place_from (is_run a n) 0 m.runs) m

-- the entity's value becomes `unknown`
unfoldable pub expire_to_m : (entity from to : ℕ) → Cells → Machine → Machine
expire_to_m e v u c m = changed_m (move e v u) (log_write_m (setting e u 3 None None) (move e v u) (put_cells c m))

unfoldable pub expire_m : List ℕ → (e : ℕ) → Machine → Machine
expire_m x e m = expire_to_m (name x e) (get_or m.values e 0) (get_or x unknown_word 0)
    (stored_m (cells m) e (get_or x unknown_word 0)) m

unfoldable pub stale_at_m : List ℕ → (e version : ℕ) → Machine → Machine
stale_at_m x e v m =
    if ltb 31 e then m else
    if eqb (get_or m.versions e 0) v then (if eqb (get_or m.values e 0) (get_or x unknown_word 0) then m
    else expire_m x e m) else m

unfoldable pub go_stale_m : List ℕ → (entity version : ℕ) → Machine → Machine
go_stale_m x e v m = stale_at_m x (entity_of x e) v m

-- every run goes
abbrev pub no_runs_m : Machine → Machine
no_runs_m m = put_runs [] m

unfoldable pub drop_all_m : Machine → Machine
drop_all_m m = log_plain_m restart_kind (no_runs_m m)

unfoldable pub external_m : List ℕ → (entity value : ℕ) → Machine → Machine
external_m x e v m = update_m x (setting e v 1 None None) m
