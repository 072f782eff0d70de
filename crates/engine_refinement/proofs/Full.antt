-- A machine that is full stays full, with the same number, whatever it does: one lemma for each function that a proof cites.
use Rattle.std.specs.Prelude.{if◌then◌else◌, Option, Some, None}
use mathlib.Core.Path.{◌≡◌, sym, ◌∙◌}
use mathlib.Core.List.{List}
use mathlib.Core.Bool.{Bool, true, false}
use Prim.Native.Nat.{ℕ}
use lib.ListN.{length}
use lib.Dec.{ltb, eqb}
use borrow.Author.Tests.{ne_eqb}
use Rattle.layout.specs.Sizes.{last_simulation_reason}
use Rattle.queue.specs.declared.Work.{Work}
use Rattle.records.specs.declared.Source.{Source as RecordSource}
use Rattle.records.specs.declared.Write.{Write}
use Rattle.runs.specs.declared.Wait.{Wait}
use Rattle.runs.specs.declared.Run.{Run}
use Rattle.runs.specs.declared.Source.{Source}
use Rattle.reasons.specs.Kinds as kinds
use Rattle.reasons.specs.declared.Reason.{Reason}
use Rattle.engine_evaluate.specs.Evaluate.{matches_m, any_m}
use Rattle.engine_evaluate.specs.declared.Truth.{Truth}
use Rattle.engine_evaluate.specs.declared.Truth.TheVariants.{Yes, No, Unknown}
use Rattle.engine_fields.specs.Fields.{two, word, stale}
use Rattle.engine_state.specs.declared.Move.{Move}
use Rattle.engine_state.specs.declared.Told.{Told}
use Rattle.engine_state.specs.declared.Setting.{Setting}
use Rattle.engine_state.specs.Machine.{Machine}
use Rattle.engine_state.specs.Changes.{
  add_m,
  log_m,
  add_run_m,
  uncertain_m,
  log_rule_m,
  log_action_m,
  log_plain_m,
  log_write_m,
  next_step_m,
}
use Rattle.engine_update.specs.Update.{expiry_m, changed_m}
use Rattle.engine_modes.specs.Modes.{
  begin_run_m,
  begin_now_m,
  begin_queued_m,
  begin_later_m,
  drop_m,
  stop_start_m,
  decided_m,
  carry_with_m,
  carry_out_m,
}
use Rattle.engine_trigger.specs.Runs.{
  release_run_m,
  release_at_m,
  release_m,
  out_m,
  finish_run_m,
  finish_m,
  wake_phase_m,
  wake_run_m,
  wake_one_m,
}
use Rattle.engine_trigger.specs.Triggers.{admit_m, log_trigger_m, offer_as_m, offer_m}
use Rattle.engine_modes.specs.declared.Decision.{Decision}
use Rattle.engine_modes.specs.declared.Decision.TheVariants.{AlreadyRunning, MaxReached, Start, StopAndStart, WaitInLine}
use Rattle.engine_actions.specs.Actions.{doubt_m, unclear_m, tested_m}

-- the machine is full with the number n
pub record Stuck (n : ℕ) (m : Machine) : Type 0 where
  pub is : m.«overflow» ≡ n

module _ (n : ℕ) (z : n ≡ 0 → ⊥) where
  abbrev S : Machine → Type 0
  S m = Stuck n m

  s_if : (b : Bool) (a c : Machine) → S a → S c → S (if b then a else c)
  s_if true a c p q = p
  s_if false a c p q = q

  not_open : (m : Machine) → S m → eqb m.«overflow» 0 ≡ false
  not_open m p = ne_eqb m.«overflow» 0 (λ e. z (sym p.is ∙ e))

  pub s_add : (s : ℕ) (w : Work) (m : Machine) → S m → S (add_m s w m)
  unfolding add_m
  s_add s w m p = rw (not_open m p) p

  pub s_log : (t : Told) (u : Option ℕ) (w : Option RecordSource) (c : Option Write) (m : Machine) → S m → S (log_m t u w c m)
  unfolding log_m
  s_log t u w c m p = rw (not_open m p) p

  pub s_add_run : (i : ℕ) (r : Run) (m : Machine) → S m → S (add_run_m i r m)
  unfolding add_run_m
  s_add_run i r m p = rw (not_open m p) p

  pub s_uncertain : (f : List ℕ) (r : Reason) (m : Machine) → S m → S (uncertain_m f r m)
  unfolding uncertain_m
  s_uncertain f r m p = s_if (ltb last_simulation_reason (length m.reasons)) _ _ p (record { is = p.is })

  pub s_log_rule : (k d a : ℕ) (m : Machine) → S m → S (log_rule_m k d a m)
  unfolding log_rule_m
  s_log_rule k d a m p = s_log _ _ _ _ m p

  pub s_log_action : (k d : ℕ) (s : Source) (r : Run) (m : Machine) → S m → S (log_action_m k d s r m)
  unfolding log_action_m
  s_log_action k d s r m p = s_log _ _ _ _ m p

  pub s_log_plain : (k : ℕ) (m : Machine) → S m → S (log_plain_m k m)
  unfolding log_plain_m
  s_log_plain k m p = s_log _ _ _ _ m p

  pub s_log_write : (w : Setting) (v : Move) (m : Machine) → S m → S (log_write_m w v m)
  unfolding log_write_m
  s_log_write w v m p = s_log _ _ _ _ m p

  pub s_next : (r : Run) (s : ℕ) (m : Machine) → S m → S (next_step_m r s m)
  unfolding next_step_m
  s_next r s m p = s_add _ _ m p

  -- ---- writes

  pub s_expiry : (x : List ℕ) (e : ℕ) (m : Machine) → S m → S (expiry_m x e m)
  unfolding expiry_m
  s_expiry x e m p = s_if (eqb (stale x e) 4294967295) _ _ p (s_add _ _ m p)

  pub s_changed : (v : Move) (m : Machine) → S m → S (changed_m v m)
  unfolding changed_m
  s_changed v m p = s_if (eqb v.from v.to) _ _ p (s_add _ _ m p)

  -- ---- runs

  pub s_release : (a : ℕ) (m : Machine) → S m → S (release_m a m)
  unfolding release_m
  s_release a m p = cases _
    where
      cases : (o : Option ℕ) → S (release_at_m o m)
      cases (Some k) = unfold release_at_m release_run_m in s_next _ _ _ (record { is = p.is })
      cases None = unfold release_at_m in p

  pub s_finish_run : (k : ℕ) (r : Run) (m : Machine) → S m → S (finish_run_m k r m)
  unfolding finish_run_m out_m
  s_finish_run k r m p = s_release _ _ (s_log_rule _ _ _ _ (record { is = p.is }))

  pub s_finish : (k : ℕ) (m : Machine) → S m → S (finish_m k m)
  unfolding finish_m
  s_finish k m p = s_finish_run k _ m p

  pub s_wake_run : (f : List ℕ) (v : Move) (k : ℕ) (r : Run) (m : Machine) → S m → S (wake_run_m f v k r m)
  unfolding wake_run_m
  s_wake_run f v k r m p = cases _
    where
      cases : (h : Option Wait) → S (wake_phase_m f v k r h m)
      cases None = unfold wake_phase_m in p
      cases (Some w) = unfold wake_phase_m in s_if (matches_m f v w.trigger) _ _ (s_next _ _ _ (record { is = p.is })) p

  pub s_wake_one : (f : List ℕ) (v : Move) (k : ℕ) (m : Machine) → S m → S (wake_one_m f v k m)
  unfolding wake_one_m
  s_wake_one f v k m p = s_wake_run f v k _ m p

  pub s_begin_run : (i : ℕ) (r : Run) (m : Machine) → S m → S (begin_run_m i r m)
  unfolding begin_run_m
  s_begin_run i r m p = s_next _ _ _ (s_log_rule _ _ _ _ (s_add_run i r m p))

  pub s_begin_now : (f x : List ℕ) (i : ℕ) (m : Machine) → S m → S (begin_now_m f x i m)
  unfolding begin_now_m
  s_begin_now f x i m p = s_begin_run i _ m p

  pub s_begin_later : (f x : List ℕ) (i : ℕ) (m : Machine) → S m → S (begin_later_m f x i m)
  unfolding begin_later_m begin_queued_m
  s_begin_later f x i m p = s_log_rule _ _ _ _ (s_add_run i _ m p)

  pub s_stop_start : (f x : List ℕ) (i : ℕ) (m : Machine) → S m → S (stop_start_m f x i m)
  unfolding stop_start_m drop_m
  s_stop_start f x i m p = s_begin_now f x i _ (s_log_rule _ _ _ _ (record { is = p.is }))

  pub s_decided : (f x : List ℕ) (i : ℕ) (d : Decision) (m : Machine) → S m → S (decided_m f x i d m)
  unfolding decided_m
  s_decided f x i AlreadyRunning m p = s_log_rule _ _ _ m p
  s_decided f x i MaxReached m p = s_log_rule _ _ _ m p
  s_decided f x i Start m p = s_begin_now f x i m p
  s_decided f x i StopAndStart m p = s_stop_start f x i m p
  s_decided f x i WaitInLine m p = s_begin_later f x i m p

  pub s_carry : (f x : List ℕ) (i : ℕ) (m : Machine) → S m → S (carry_out_m f x i m)
  unfolding carry_out_m carry_with_m
  s_carry f x i m p = s_decided f x i _ m p

  pub s_admit : (f x : List ℕ) (i : ℕ) (t : Truth) (m : Machine) → S m → S (admit_m f x i t m)
  unfolding admit_m
  s_admit f x i Yes m p = s_if (eqb (two f (word x i 7)) 0) _ _ (s_carry f x i m p) p
  s_admit f x i No m p = p
  s_admit f x i Unknown m p = s_uncertain f _ m p

  pub s_offer : (f x : List ℕ) (v : Move) (i : ℕ) (m : Machine) → S m → S (offer_m f x v i m)
  unfolding offer_m offer_as_m log_trigger_m
  s_offer f x v i m p = s_if (any_m f v (word x i 3)) _ _ (s_admit f x i _ _ (s_log _ _ _ _ m p)) p

  -- ---- actions

  pub s_doubt : (f x : List ℕ) (r : Run) (k : ℕ) (m : Machine) → S m → S (doubt_m f x r k m)
  unfolding doubt_m
  s_doubt f x r k m p = s_uncertain f _ m p

  pub s_unclear : (f x : List ℕ) (k : ℕ) (r : Run) (i : ℕ) (m : Machine) → S m → S (unclear_m f x k r i m)
  unfolding unclear_m
  s_unclear f x k r i m p = s_finish k _ (s_doubt f x r i m p)

  pub s_tested : (f x : List ℕ) (k : ℕ) (r : Run) (t : Truth) (m : Machine) → S m → S (tested_m f x k r t m)
  unfolding tested_m
  s_tested f x k r Yes m p = s_next _ _ m p
  s_tested f x k r No m p = s_finish k m p
  s_tested f x k r Unknown m p = s_unclear f x k r kinds.action_condition m p
