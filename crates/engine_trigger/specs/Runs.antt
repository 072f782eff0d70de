-- Runs that end and wake. A run is read back with just 17 places.
use Rattle.std.specs.Prelude.{ℕ, zero, suc, ◌+◌, false, Option, Some, None, List, [], ◌++◌, length, get_or, take, drop, set, if◌then◌else◌}
use Rattle.records.specs.Kinds.{complete_kind}
use Rattle.runs.specs.Lists.{place_from}
use Rattle.runs.specs.Runs.{whole, in_line}
use Rattle.runs.specs.declared.Run.{Run}
use Rattle.runs.specs.declared.Wait.{Wait}
use Rattle.engine_evaluate.specs.Evaluate.{matches_m}
use Rattle.engine_state.specs.declared.Move.{Move}
use Rattle.engine_state.specs.Machine.{Machine, put_runs}
use Rattle.engine_state.specs.Changes.{log_rule_m}
use Rattle.engine_modes.specs.Modes.{now_m}

abbrev pub no_run : Run
no_run = record { automation = 0; sequence = 0; number = 0; queued = false; phase = None; depth = 0; places = [] }

-- the run at k
unfoldable pub run_m : (k : ℕ) → Machine → Run
run_m k m = whole (get_or m.runs k no_run)

abbrev pub put_run_m : (k : ℕ) → Run → Machine → Machine
put_run_m k r m = put_runs (set m.runs k r) m

abbrev pub released_m : Run → Run
released_m r = record {
  automation = r.automation;
  sequence = r.sequence;
  number = r.number;
  queued = false;
  phase =
      r.phase;
  depth = r.depth;
  places = r.places;
}

abbrev pub phase_m : Option Wait → Run → Run
phase_m p r = record {
  automation = r.automation;
  sequence = r.sequence;
  number = r.number;
  queued = r.queued;
  phase = p;
  depth = r.depth;
  places = r.places;
}

-- ---- a queued run's turn

unfoldable pub release_run_m : (k : ℕ) → Run → Machine → Machine
release_run_m k r m = now_m r (put_run_m k (released_m r) m)

unfoldable pub release_at_m : Option ℕ → Machine → Machine
release_at_m (Some k) m = release_run_m k (run_m k m) m
release_at_m None m = m

unfoldable pub release_m : (automation : ℕ) → Machine → Machine
release_m a m = release_at_m (place_from (in_line a) 0 m.runs) m

-- the run at k ends: it goes, that is recorded, and its automation's next is released
unfoldable pub out_m : (k : ℕ) → Machine → Machine
out_m k m = put_runs (take k m.runs ++ drop (k + 1) m.runs) m

unfoldable pub finish_run_m : (k : ℕ) → Run → Machine → Machine
finish_run_m k r m = release_m r.automation (log_rule_m complete_kind r.number r.automation (out_m k m))

unfoldable pub finish_m : (k : ℕ) → Machine → Machine
finish_m k m = finish_run_m k (run_m k m) m

-- ---- a run that waits for a change

unfoldable pub wake_phase_m : List ℕ → Move → (k : ℕ) → Run → Option Wait → Machine → Machine
wake_phase_m f v k r None m = m
wake_phase_m f v k r (Some w) m = if matches_m f v w.trigger then now_m r (put_run_m k (phase_m None r) m) else m

unfoldable pub wake_run_m : List ℕ → Move → (k : ℕ) → Run → Machine → Machine
wake_run_m f v k r m = wake_phase_m f v k r r.phase m

unfoldable pub wake_one_m : List ℕ → Move → (k : ℕ) → Machine → Machine
wake_one_m f v k m = wake_run_m f v k (run_m k m) m

-- the first n runs
unfoldable pub wake_first_m : List ℕ → Move → (n : ℕ) → Machine → Machine
wake_first_m f v zero m = m
wake_first_m f v (suc k) m = wake_one_m f v k (wake_first_m f v k m)

unfoldable pub wake_m : List ℕ → Move → Machine → Machine
wake_m f v m = wake_first_m f v (length m.runs) m
