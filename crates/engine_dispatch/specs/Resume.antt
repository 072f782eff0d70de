-- What a run does next: its next action, or its end.
use Rattle.std.specs.Prelude.{ℕ, Bool, true, false, Option, Some, None, List, eqb, if◌then◌else◌}
use Rattle.runs.specs.Lists.{place_from}
use Rattle.runs.specs.Runs.{is_run}
use Rattle.runs.specs.declared.Run.{Run}
use Rattle.runs.specs.declared.Source.{Source}
use Rattle.runs.specs.declared.Wait.{Wait}
use Rattle.engine_evaluate.specs.Actions.{action_m, top_m, stepped_m}
use Rattle.engine_evaluate.specs.declared.Effect.{Effect}
use Rattle.engine_evaluate.specs.declared.Effect.TheVariants as effect
use Rattle.engine_evaluate.specs.declared.Action.{Action}
use Rattle.engine_state.specs.Machine.{Machine}
use Rattle.engine_trigger.specs.Runs.{run_m, put_run_m, finish_m}
use Rattle.engine_actions.specs.Actions.{set_m, flip_m, delay_m, condition_m, choose_m, begin_wait_m, give_up_m}

unfoldable pub perform_m : (f x : List ℕ) → (k : ℕ) → Run → Source → Effect → Machine → Machine
perform_m f x k r s (effect.Set e v) m = set_m x r s e v m
perform_m f x k r s (effect.Toggle e) m = flip_m f x r s e m
perform_m f x k r s (effect.Delay n) m = delay_m r s n m
perform_m f x k r s (effect.Condition at) m = condition_m f x k r s at m
perform_m f x k r s (effect.Choose at) m = choose_m f x k r s at m
perform_m f x k r s (effect.Wait at) m = begin_wait_m f k r s at m
perform_m f x k r s (effect.Unknown n) m = give_up_m f k r s n m

-- the run, with its action behind it, does the action
unfoldable pub act_m : (f x : List ℕ) → (k : ℕ) → Run → Source → Effect → Machine → Machine
act_m f x k r s e m = perform_m f x k r s e (put_run_m k r m)

unfoldable pub act_next_m : (f x : List ℕ) → (k : ℕ) → Run → Action → Machine → Machine
act_next_m f x k r a m = act_m f x k (stepped_m r a.next) a.source a.effect m

unfoldable pub go_on_run_m : (f x : List ℕ) → (k : ℕ) → Run → Machine → Machine
go_on_run_m f x k r m = if eqb r.depth 0 then finish_m k m else act_next_m f x k r (action_m f x (top_m r).position) m

unfoldable pub go_on_m : (f x : List ℕ) → (k : ℕ) → Machine → Machine
go_on_m f x k m = go_on_run_m f x k (run_m k m) m

unfoldable pub going_phase : Option Wait → Bool
going_phase None = true
going_phase (Some w) = false

unfoldable pub going_m : Run → Bool
going_m r = if r.queued then false else going_phase r.phase

unfoldable pub resume_run_m : (f x : List ℕ) → (k : ℕ) → Run → Machine → Machine
resume_run_m f x k r m = if going_m r then go_on_m f x k m else m

unfoldable pub resume_at_m : (f x : List ℕ) → Option ℕ → Machine → Machine
resume_at_m f x (Some k) m = resume_run_m f x k (run_m k m) m
resume_at_m f x None m = m

unfoldable pub resume_m : (f x : List ℕ) → (automation sequence : ℕ) → Machine → Machine
resume_m f x a n m = resume_at_m f x (place_from (is_run a n) 0 m.runs) m
