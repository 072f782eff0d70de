-- The actions, by cases.
use Prim.Native.Nat.{ℕ, ◌+◌, ◌≤◌, ◌<◌}
use mathlib.Core.Path.{◌≡◌, sym, ◌∙◌, ap}
use mathlib.Core.Bool.{Bool, true, false}
use mathlib.Core.List.{List}
use lib.Dec.{eqb}
use lib.ListN.{get_or}
use borrow.Author.Tests.{eq-eqb, ne_eqb, lt-ltb, le-ltb}
use Rattle.runs.specs.declared.Run.{Run}
use Rattle.runs.specs.declared.Source.{Source}
use Rattle.reasons.specs.Kinds as kinds
use Rattle.reasons.specs.declared.Reason.{Reason}
use Rattle.bounds.specs.Bounds.{at_most}
use Rattle.engine_fields.specs.Fields.{two, four, entity_of, about_rule, alone, note_reason}
use Rattle.engine_evaluate.specs.Evaluate.{number_m, undecided_m, evaluate_m, select_m}
use Rattle.engine_evaluate.specs.declared.Truth.{Truth}
use Rattle.engine_evaluate.specs.declared.Branch.{Branch}
use Rattle.engine_state.specs.Machine.{Machine, later}
use Rattle.engine_state.specs.Changes.{uncertain_m, log_action_m, next_step_m}
use Rattle.engine_modes.specs.Modes.{now_m}
use Rattle.engine_trigger.specs.Runs.{finish_m}
use Rattle.engine_actions.specs.Actions.{
  set_m,
  toggled_m,
  doubt_m,
  flip_from_m,
  flip_at_m,
  flip_m,
  after_m,
  tested_m,
  condition_as_m,
  condition_m,
  chosen_m,
  choose_m,
  wait,
  waiting_m,
  begin_wait_m,
  give_up_m,
}

pub doubt_is : (f x : List ℕ) (r : Run) (kind i : ℕ) (why : Reason) (m : Machine) → i ≡ at_most r.automation 31 →
    why ≡ about_rule f x i kind → uncertain_m f why m ≡ doubt_m f x r kind m
unfolding doubt_m
doubt_is f x r kind i why m e g = ap (λ z. uncertain_m f z m) (g ∙ ap (λ z. about_rule f x z kind) e)

module _ (f x : List ℕ) (r : Run) (s : Source) (e i : ℕ) (m : Machine) (is : i ≡ entity_of x e) where
  pub flip_none : 31 < i → m ≡ flip_m f x r s e m
  unfolding flip_m flip_at_m
  flip_none h = rw (← is, lt-ltb 31 i h)

  module _ (b : Bool) (h : i ≤ 31) (eb : b ≡ undecided_m x (get_or m.values i 0)) where
    pub flip_unknown : b ≡ true → now_m r (doubt_m f x r kinds.toggle m) ≡ flip_m f x r s e m
    unfolding flip_m flip_at_m flip_from_m
    flip_unknown t = rw (← is, le-ltb 31 i h, ← eb, t)

    pub flip_set : (v : ℕ) → b ≡ false → v ≡ toggled_m x (get_or m.values i 0) → set_m x r s e v m ≡ flip_m f x r s e m
    unfolding flip_m flip_at_m flip_from_m
    flip_set v t ev = rw (← is, le-ltb 31 i h, ← eb, t, ← ev)

pub after_is : (r : Run) (n second : ℕ) (m : Machine) → second ≡ later m.now n → next_step_m r second m ≡ after_m r n m
after_is r n second m e = ap (λ z. next_step_m r z m) e

pub tested_is : (f x : List ℕ) (k : ℕ) (r : Run) (t g : Truth) (m : Machine) → t ≡ g →
    tested_m f x k r g m ≡ tested_m f x k r t m
tested_is f x k r t g m e = ap (λ z. tested_m f x k r z m) (sym e)

pub condition_is : (f x : List ℕ) (k : ℕ) (r : Run) (s : Source) (at d : ℕ) (t : Truth) (m : Machine) →
    t ≡ evaluate_m f x m.values m.now at → d ≡ number_m t →
    tested_m f x k r t (log_action_m 11 d s r m) ≡ condition_m f x k r s at m
unfolding condition_m condition_as_m
condition_is f x k r s at d t m e g = ap (λ z. tested_m f x k r t (log_action_m 11 z s r m)) g
    ∙ ap (λ z. tested_m f x k r z (log_action_m 11 (number_m z) s r m)) e

pub choose_is : (f x : List ℕ) (k : ℕ) (r : Run) (s : Source) (at : ℕ) (b g : Branch) (m : Machine) → b ≡ g →
    b ≡ select_m f x m.values m.now at → chosen_m f x k r s g m ≡ choose_m f x k r s at m
unfolding choose_m
choose_is f x k r s at b g m e h = ap (λ z. chosen_m f x k r s z m) (sym e ∙ h)

module _ (f : List ℕ) (k : ℕ) (r : Run) (s : Source) (at n : ℕ) (m : Machine) (en : n ≡ two f (at + 14)) where
  pub wait_note : (why : Reason) → (n ≡ 65535 → ⊥) → why ≡ alone kinds.wait →
      finish_m k (uncertain_m f why m) ≡ begin_wait_m f k r s at m
  unfolding begin_wait_m
  wait_note why h e = rw (← en, ne_eqb n 65535 h) (ap (λ z. finish_m k (uncertain_m f z m)) e)

  pub wait_goes : (sec d b : ℕ) → n ≡ 65535 → sec ≡ four f (at + 16) → d ≡ later m.now sec → b ≡ get_or f (at + 20) 0 →
      waiting_m k r s sec d (wait at d (eqb b 1) s) m ≡ begin_wait_m f k r s at m
  unfolding begin_wait_m
  wait_goes sec d b h es ed eb = rw (← en, eq-eqb n 65535 h, ← es, ← ed, ← eb)

pub give_is : (f : List ℕ) (k : ℕ) (r : Run) (s : Source) (n : ℕ) (why : Reason) (m : Machine) → why ≡ note_reason f n →
    finish_m k (log_action_m 18 n s r (uncertain_m f why m)) ≡ give_up_m f k r s n m
unfolding give_up_m
give_is f k r s n why m e = ap (λ z. finish_m k (log_action_m 18 n s r (uncertain_m f z m))) e
