-- The next action, and the work of an item, by cases.
use Prim.Native.Nat.{ℕ}
use mathlib.Core.Path.{◌≡◌, refl, sym, ◌∙◌, ap}
use mathlib.Core.Bool.{Bool, true, false, not}
use mathlib.Core.List.{List}
use borrow.Author.Tests.{eq-eqb, ne_eqb}
use Rattle.queue.specs.declared.Work.{Work}
use Rattle.runs.specs.declared.Run.{Run}
use Rattle.runs.specs.declared.Place.{Place}
use Rattle.runs.specs.declared.Source.{Source}
use Rattle.runs.specs.declared.Wait.{Wait}
use Rattle.std.specs.Prelude.{Option, Some, None, is_some}
use Rattle.engine_evaluate.specs.Actions.{action_m, top_m, stepped_m}
use Rattle.engine_evaluate.specs.declared.Effect.{Effect}
use Rattle.engine_evaluate.specs.declared.Action.{Action}
use Rattle.engine_state.specs.Machine.{Machine}
use Rattle.engine_trigger.specs.Runs.{put_run_m, finish_m}
use Rattle.engine_dispatch.specs.Resume.{
  perform_m,
  act_m,
  act_next_m,
  go_on_run_m,
  go_on_m,
  going_phase,
  going_m,
  resume_run_m,
}
use Rattle.engine_dispatch.specs.Dispatch.{process_m}

pub perform_is : (f x : List ℕ) (k : ℕ) (r : Run) (s : Source) (e g : Effect) (m : Machine) → e ≡ g →
    perform_m f x k r s g m ≡ perform_m f x k r s e m
perform_is f x k r s e g m h = ap (λ z. perform_m f x k r s z m) (sym h)

pub on_end : (f x : List ℕ) (k : ℕ) (r : Run) (m : Machine) → r.depth ≡ 0 → finish_m k m ≡ go_on_run_m f x k r m
unfolding go_on_run_m
on_end f x k r m e = rw (eq-eqb r.depth 0 e)

pub on_act : (f x : List ℕ) (k : ℕ) (r n : Run) (p : Place) (a : Action) (m : Machine) → (r.depth ≡ 0 → ⊥) → p ≡ top_m r →
    a ≡ action_m f x p.position → n ≡ stepped_m r a.next →
    perform_m f x k n a.source a.effect (put_run_m k n m) ≡ go_on_run_m f x k r m
unfolding go_on_run_m act_next_m act_m
on_act f x k r n p a m h ep ea en = rw (ne_eqb r.depth 0 h)
    (ap (λ z. act_m f x k z a.source a.effect m) en
    ∙ ap (λ z. act_next_m f x k r z m) (ea ∙ ap (λ z. action_m f x z.position) ep))

-- a queued run doesn't go on, and of another its phase decides
pub going_queued : (r : Run) → r.queued ≡ true → not r.queued ≡ going_m r
unfolding going_m
going_queued r e = rw e refl

pub going_free : (r : Run) (b : Bool) → r.queued ≡ false → is_some r.phase ≡ not b → b ≡ going_m r
unfolding going_m going_phase
going_free r b e g = rw e (by r.phase b g)
  where
    by : (p : Option Wait) (b : Bool) → is_some p ≡ not b → b ≡ going_phase p
    by None true g = refl
    by None false g = cc
    by (Some w) true g = cc
    by (Some w) false g = refl

module _ (f x : List ℕ) (k : ℕ) (r : Run) (b : Bool) (m : Machine) (is : b ≡ going_m r) where
  pub resume_yes : b ≡ true → go_on_m f x k m ≡ resume_run_m f x k r m
  unfolding resume_run_m
  resume_yes e = rw (← is, e)

  pub resume_no : b ≡ false → m ≡ resume_run_m f x k r m
  unfolding resume_run_m
  resume_no e = rw (← is, e)

pub process_is : (f x : List ℕ) (w g : Work) (m : Machine) → w ≡ g → process_m f x g m ≡ process_m f x w m
process_is f x w g m h = ap (λ z. process_m f x z m) (sym h)
