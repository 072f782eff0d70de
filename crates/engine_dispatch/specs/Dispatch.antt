-- An item of the queue is worked off.
use Rattle.std.specs.Prelude.{ℕ, List}
use Rattle.queue.specs.declared.Work.{Work}
use Rattle.queue.specs.declared.Work.TheVariants as work
use Rattle.engine_state.specs.Machine.{Machine}
use Rattle.engine_update.specs.Update.{move}
use Rattle.engine_trigger.specs.Triggers.{trigger_m}
use Rattle.engine_dispatch.specs.Resume.{resume_m}
use Rattle.engine_handlers.specs.Handlers.{time_out_m, go_stale_m, drop_all_m, external_m}

unfoldable pub process_m : (f x : List ℕ) → Work → Machine → Machine
process_m f x (work.Set e v) m = external_m x e v m
process_m f x work.Restart m = drop_all_m m
process_m f x work.Reload m = drop_all_m m
process_m f x (work.Changed e v u) m = trigger_m f x (move e v u) m
process_m f x (work.Resume a n) m = resume_m f x a n m
process_m f x (work.Timeout a n) m = time_out_m a n m
process_m f x (work.Stale e v) m = go_stale_m x e v m
