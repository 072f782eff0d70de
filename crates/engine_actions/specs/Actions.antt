-- What each kind of action does, over the file f and the table x.
use Rattle.std.specs.Prelude.{ℕ, ◌+◌, Bool, Some, List, ltb, eqb, get_or, if◌then◌else◌}
use Rattle.layout.specs.Table.{off_word, on_word}
use Rattle.records.specs.Kinds.{choose_kind, condition_kind, delay_kind, unknown_kind, wait_kind}
use Rattle.queue.specs.declared.Work.TheVariants.{Timeout}
use Rattle.runs.specs.declared.Run.{Run}
use Rattle.runs.specs.declared.Source.{Source}
use Rattle.runs.specs.declared.Wait.{Wait}
use Rattle.bounds.specs.Bounds.{at_most}
use Rattle.engine_fields.specs.Fields.{two, four, entity_of, about_rule, alone, note_reason}
use Rattle.engine_evaluate.specs.Evaluate.{number_m, undecided_m, evaluate_m, select_m}
use Rattle.engine_evaluate.specs.Actions.{list_m}
use Rattle.engine_evaluate.specs.declared.Truth.{Truth}
use Rattle.engine_evaluate.specs.declared.Truth.TheVariants.{Yes, No, Unknown}
use Rattle.engine_evaluate.specs.declared.Branch.{Branch}
use Rattle.engine_evaluate.specs.declared.Branch.TheVariants.{Take, Unclear, Skip}
use Rattle.engine_state.specs.Machine.{Machine, later}
use Rattle.engine_state.specs.Changes.{add_m, uncertain_m, log_action_m, next_step_m}
use Rattle.engine_update.specs.Update.{update_m, setting}
use Rattle.engine_modes.specs.Modes.{now_m}
use Rattle.engine_trigger.specs.Runs.{put_run_m, phase_m, finish_m}
use Rattle.reasons.specs.Kinds as kinds

unfoldable pub written_m : List ℕ → Run → Source → (entity value : ℕ) → Machine → Machine
written_m x r s e v m = update_m x (setting e v 2 (Some r.automation) (Some (record { line = s.line; column = s.column }))) m

unfoldable pub set_m : List ℕ → Run → Source → (entity value : ℕ) → Machine → Machine
set_m x r s e v m = now_m r (written_m x r s e v m)

-- on and off, each for the other
unfoldable pub toggled_m : List ℕ → ℕ → ℕ
toggled_m x v = if eqb v (get_or x on_word 0) then get_or x off_word 0 else get_or x on_word 0

-- a reason about a run's automation
unfoldable pub doubt_m : (f x : List ℕ) → Run → (kind : ℕ) → Machine → Machine
doubt_m f x r kind m = uncertain_m f (about_rule f x (at_most r.automation 31) kind) m

unfoldable pub flip_from_m : (f x : List ℕ) → Run → Source → (entity old : ℕ) → Machine → Machine
flip_from_m f x r s e old m = if undecided_m x old then now_m r (doubt_m f x r kinds.toggle m)
    else set_m x r s e (toggled_m x old) m

unfoldable pub flip_at_m : (f x : List ℕ) → Run → Source → (entity place : ℕ) → Machine → Machine
flip_at_m f x r s e i m = if ltb 31 i then m else flip_from_m f x r s e (get_or m.values i 0) m

unfoldable pub flip_m : (f x : List ℕ) → Run → Source → (entity : ℕ) → Machine → Machine
flip_m f x r s e m = flip_at_m f x r s e (entity_of x e) m

-- the run goes on after so many seconds
abbrev pub after_m : Run → (seconds : ℕ) → Machine → Machine
after_m r n m = next_step_m r (later m.now n) m

unfoldable pub delay_m : Run → Source → (seconds : ℕ) → Machine → Machine
delay_m r s n m = after_m r n (log_action_m delay_kind n s r m)

-- the run ends for a reason
unfoldable pub unclear_m : (f x : List ℕ) → (k : ℕ) → Run → (kind : ℕ) → Machine → Machine
unclear_m f x k r kind m = finish_m k (doubt_m f x r kind m)

unfoldable pub tested_m : (f x : List ℕ) → (k : ℕ) → Run → Truth → Machine → Machine
tested_m f x k r Yes m = now_m r m
tested_m f x k r No m = finish_m k m
tested_m f x k r Unknown m = unclear_m f x k r kinds.action_condition m

unfoldable pub condition_as_m : (f x : List ℕ) → (k : ℕ) → Run → Source → Truth → Machine → Machine
condition_as_m f x k r s t m = tested_m f x k r t (log_action_m condition_kind (number_m t) s r m)

unfoldable pub condition_m : (f x : List ℕ) → (k : ℕ) → Run → Source → (at : ℕ) → Machine → Machine
condition_m f x k r s at m = condition_as_m f x k r s (evaluate_m f x m.values m.now at) m

unfoldable pub take_list_m : (f : List ℕ) → (k : ℕ) → Run → Source → (at : ℕ) → Machine → Machine
take_list_m f k r s at m = now_m r (log_action_m choose_kind 0 s r (put_run_m k (list_m f r at) m))

unfoldable pub chosen_m : (f x : List ℕ) → (k : ℕ) → Run → Source → Branch → Machine → Machine
chosen_m f x k r s (Take p) m = take_list_m f k r s p m
chosen_m f x k r s Unclear m = unclear_m f x k r kinds.choose_condition m
chosen_m f x k r s (Skip p) m = unclear_m f x k r kinds.choose_condition m

unfoldable pub choose_m : (f x : List ℕ) → (k : ℕ) → Run → Source → (at : ℕ) → Machine → Machine
choose_m f x k r s at m = chosen_m f x k r s (select_m f x m.values m.now at) m

abbrev pub wait : (trigger deadline : ℕ) → Bool → Source → Wait
wait t d b s = record { trigger = t; deadline = d; continue_on_timeout = b; source = s }

unfoldable pub waiting_m : (k : ℕ) → Run → Source → (seconds deadline : ℕ) → Wait → Machine → Machine
waiting_m k r s n d w m =
    log_action_m wait_kind n s r (add_m d (Timeout r.automation r.sequence) (put_run_m k (phase_m (Some w) r) m))

-- a trigger with a note isn't waited for
unfoldable pub begin_wait_m : (f : List ℕ) → (k : ℕ) → Run → Source → (at : ℕ) → Machine → Machine
begin_wait_m f k r s at m =
    if eqb (two f (at + 14)) 65535 then
    waiting_m k r s (four f (at + 16)) (later m.now (four f (at + 16)))
    (wait at (later m.now (four f (at + 16))) (eqb (get_or f (at + 20) 0) 1) s) m
    else finish_m k (uncertain_m f (alone kinds.wait) m)

unfoldable pub give_up_m : (f : List ℕ) → (k : ℕ) → Run → Source → (reason : ℕ) → Machine → Machine
give_up_m f k r s n m = finish_m k (log_action_m unknown_kind n s r (uncertain_m f (note_reason f n) m))
