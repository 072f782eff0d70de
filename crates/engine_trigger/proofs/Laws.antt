-- Runs in their area, and the definitions by cases.
use Prim.Native.Nat.{ℕ, ◌+◌, ◌-◌, ◌*◌, ◌≤◌, ◌<◌}
use mathlib.Core.Path.{◌≡◌, refl, sym, ◌∙◌, ap, subst}
use mathlib.Core.Bool.{Bool, true, false}
use mathlib.Core.List.{List, ◌++◌}
use lib.ListN.{length, get_or, take, drop, set, length-set, length-append, length-drop}
use lib.Seq.{length-take-le}
use borrow.Author.Tests.{eq-eqb, ne_eqb}
use native.Mathlib.Numerals.{add-one}
use native.Mathlib.Omega.{arith}
use Rattle.areas.specs.Areas.{area}
use Rattle.runs.specs.Lists.{place_from}
use Rattle.runs.specs.Runs.{run_words, run_at, whole, Sought, Replaced, Removed}
use Rattle.runs.proofs.Laws as runs
use Rattle.runs.specs.declared.Run.{Run}
use Rattle.runs.specs.declared.Wait.{Wait}
use Rattle.std.specs.Prelude.{Option, Some, None}
use Rattle.reasons.specs.Kinds as kinds
use Rattle.reasons.specs.declared.Reason.{Reason}
use Rattle.bounds.specs.Bounds.{at_most}
use Rattle.engine_fields.specs.Fields.{two, word, rules, about_rule}
use Rattle.engine_state.specs.Changes.{uncertain_m}
use Rattle.engine_evaluate.specs.Evaluate.{matches_m, any_m, all_m}
use Rattle.engine_evaluate.specs.declared.Truth.{Truth}
use Rattle.engine_evaluate.specs.declared.Truth.TheVariants.{Yes, No, Unknown}
use Rattle.engine_evaluate.specs.declared.Judged.{Judged}
use Rattle.engine_state.specs.declared.State.{State}
use Rattle.engine_state.specs.declared.Move.{Move}
use Rattle.engine_state.specs.Machine.{Machine, Entire, entire, machine, with_active}
use Rattle.engine_state.specs.Steps.{Lent, kept, goes, Listing, still, Steps, Moves}
use Rattle.engine_state.proofs.Laws as states
use Rattle.engine_modes.specs.Modes.{now_m, carry_out_m}
use Rattle.engine_modes.proofs.Laws as modes
use Rattle.engine_trigger.specs.Runs.{
  no_run,
  run_m,
  put_run_m,
  phase_m,
  out_m,
  wake_phase_m,
  wake_run_m,
  wake_one_m,
  wake_first_m,
  wake_m,
}
use Rattle.engine_trigger.specs.Triggers.{admit_m, offer_as_m, offer_m, offer_first_m, trigger_m}

-- ---- changes of the run area

module _ (st : Entire) (r b : List ℕ) (h : st.live_runs * 28 ≤ length r) (same : length b ≡ length r) where
  pub replaced : (k : ℕ) (x y : Run) → Replaced r k y b → y ≡ x → k < st.live_runs →
      Steps (λ c. put_run_m k x (machine st c)) st st kept kept (goes r b) still
  replaced k x y rep e lt = record {
    queue = refl;
    records = refl;
    runs = (same, omega (arith, h, same));
    reasons = refl;
    does = λ f q a _ u c held.
        record {
          content = states.k_runs (set c.runs k x) c;
          held = record {
            queue = held.queue;
            records = held.records;
            runs =
                modes.held_runs r b st.live_runs same st.live_runs c.run_size c.runs (set c.runs k x)
                held.runs (held.runs.many ∙ sym (length-set c.runs k x))
                (rep.is st.live_runs c.runs (sym held.runs.many, held.runs.is) lt
                ∙ ap (λ z. area run_words (length r) (set c.runs k z)) e);
            reasons = held.reasons;
          };
          is = refl;
        };
  }

  out_length : (l : List Run) (k : ℕ) → k < length l → length (take k l ++ drop (k + 1) l) ≡ length l - 1
  out_length l k g = length-append (take k l) (drop (k + 1) l)
      ∙ omega (arith, length-take-le k l (omega arith), length-drop (k + 1) l)

  removed_from : (k : ℕ) → Removed r st.live_runs k b → k < st.live_runs →
      Steps (λ c. out_m k (machine st c)) st (modes.active (st.live_runs - 1) st) kept kept (goes r b) still
  unfolding out_m
  removed_from k rem lt = record {
    queue = refl;
    records = refl;
    runs = (same, omega (arith, h, same));
    reasons = refl;
    does = λ f q a _ u c held.
        let old = held.runs in
        let l' = take k c.runs ++ drop (k + 1) c.runs in
        record {
          content = states.k_runs l' c;
          held = record {
            queue = held.queue;
            records = held.records;
            runs =
                modes.held_runs r b st.live_runs same (st.live_runs - 1) c.run_size c.runs l' old
                (ap (λ n. n - 1) old.many ∙ sym (out_length c.runs k (subst (λ n. k < n) old.many lt)))
                (rem.is c.runs (sym old.many, old.is));
            reasons = held.reasons;
          };
          is = refl;
        };
  }

module _ (st : State) (r b : List ℕ) (h : st.live_runs * 28 ≤ length r) (same : length b ≡ length r) (s : State) where
  pub removed : (k : ℕ) → Removed r st.live_runs k b → s ≡ with_active (st.live_runs - 1) st → k < st.live_runs →
      Moves (out_m k) st s kept kept (goes r b) still kept kept kept
  removed k rem e lt =
      states.moves
      (λ v n c. subst (λ z. Steps (λ k'. out_m k (machine (entire st v n c) k')) (entire st v n c) (entire z v n c) kept kept
      (goes r b) still) (sym e) (removed_from (entire st v n c) r b h same k rem lt))

-- ---- what is read of the run area is what the machine holds

module _ {st s : Entire} {Q A : Lent} {r b : List ℕ} {U : Listing} where
  pub with_run : (F : Run → Machine → Machine) {k : ℕ} {x : Run} → x ≡ run_at r k → k < st.live_runs →
      Steps (λ c. F x (machine st c)) st s Q A (goes r b) U →
      Steps (λ c. F (run_m k (machine st c)) (machine st c)) st s Q A (goes r b) U
  unfolding run_m
  with_run F {k} {x} e lt d = states.knowing (λ c. F (whole (get_or c.runs k no_run)) (machine st c)) d (λ f q a _ u c held.
      ap (λ z. F z (machine st c)) (e ∙ ap (λ z. run_at z k) held.runs.is
      ∙ runs.run_is (length r) c.runs k no_run (subst (λ n. k < n) held.runs.many lt)))

  pub with_found : (F : Option ℕ → Machine → Machine) {p : Run → Bool} {x y : Option ℕ} → Sought p r st.live_runs x → x ≡ y →
      Steps (λ c. F y (machine st c)) st s Q A (goes r b) U →
      Steps (λ c. F (place_from p 0 c.runs) (machine st c)) st s Q A (goes r b) U
  with_found F {p} sought e d = states.knowing (λ c. F (place_from p 0 c.runs) (machine st c)) d (λ f q a _ u c held.
      ap (λ z. F z (machine st c)) (sym e ∙ sought.is c.runs (sym held.runs.many, held.runs.is)))

module _ {st s : State} {Q A : Lent} {r b : List ℕ} {U : Listing} {L N C : Lent} where
  pub ran : (F : Run → Machine → Machine) {k : ℕ} {x : Run} → x ≡ run_at r k → k < st.live_runs →
      Moves (F x) st s Q A (goes r b) U L N C → Moves (λ m. F (run_m k m) m) st s Q A (goes r b) U L N C
  ran F e lt d = states.moves (λ v n c. with_run F e lt (d.does v n c))

  pub found : (F : Option ℕ → Machine → Machine) {p : Run → Bool} {x y : Option ℕ} → Sought p r st.live_runs x → x ≡ y →
      Moves (F y) st s Q A (goes r b) U L N C → Moves (λ m. F (place_from p 0 m.runs) m) st s Q A (goes r b) U L N C
  found F sought e d = states.moves (λ v n c. with_found F sought e (d.does v n c))

-- ---- runs that wake

module _ (f : List ℕ) (v : Move) (k : ℕ) (r : Run) (m : Machine) where
  pub wake_going : r.phase ≡ None → m ≡ wake_run_m f v k r m
  unfolding wake_run_m wake_phase_m
  wake_going e = sym (ap (λ p. wake_phase_m f v k r p m) e)

  module _ (w : Wait) (t : Bool) (e : r.phase ≡ Some w) (is : t ≡ matches_m f v w.trigger) where
    pub wake_yes : t ≡ true → now_m r (put_run_m k (phase_m None r) m) ≡ wake_run_m f v k r m
    unfolding wake_run_m wake_phase_m
    wake_yes g = sym (ap (λ p. wake_phase_m f v k r p m) e ∙ rw (← is, g))

    pub wake_no : t ≡ false → m ≡ wake_run_m f v k r m
    unfolding wake_run_m wake_phase_m
    wake_no g = sym (ap (λ p. wake_phase_m f v k r p m) e ∙ rw (← is, g))

pub wake_none : (f : List ℕ) (v : Move) (m : Machine) → m ≡ wake_first_m f v 0 m
unfolding wake_first_m
wake_none f v m = refl

pub wake_more : (f : List ℕ) (v : Move) (k : ℕ) (m : Machine) →
    wake_one_m f v k (wake_first_m f v k m) ≡ wake_first_m f v (k + 1) m
unfolding wake_first_m
wake_more f v k m = rw (add-one k)

pub wake_all : (f : List ℕ) (v : Move) (k : ℕ) {st s : Entire} {q q' r r' : List ℕ} → k ≡ st.live_runs →
    Steps (λ c. wake_first_m f v k (machine st c)) st s (goes q q') kept (goes r r') still →
    Steps (λ c. wake_m f v (machine st c)) st s (goes q q') kept (goes r r') still
unfolding wake_m
wake_all f v k {st} e d = states.knowing (λ c. wake_first_m f v (length c.runs) (machine st c)) d
    (λ _ q a _ u c held. ap (λ n. wake_first_m f v n (machine st c)) (e ∙ held.runs.many))

-- ---- triggers

pub admit_is : (f x : List ℕ) (i : ℕ) (t g : Truth) (m : Machine) → t ≡ g → admit_m f x i g m ≡ admit_m f x i t m
admit_is f x i t g m e = ap (λ z. admit_m f x i z m) (sym e)

pub admit_no : (f x : List ℕ) (i : ℕ) (t : Truth) (m : Machine) → t ≡ No → m ≡ admit_m f x i t m
unfolding admit_m
admit_no f x i t m e = sym (ap (λ z. admit_m f x i z m) e)

pub admit_unknown : (f x : List ℕ) (i : ℕ) (r : Reason) (m : Machine) → r ≡ about_rule f x i kinds.trigger_condition →
    uncertain_m f r m ≡ admit_m f x i Unknown m
unfolding admit_m
admit_unknown f x i r m e = ap (λ z. uncertain_m f z m) e

module _ (f x : List ℕ) (i w n : ℕ) (m : Machine) (ew : w ≡ word x i 7) (en : n ≡ two f w) where
  pub admit_yes : n ≡ 0 → carry_out_m f x i m ≡ admit_m f x i Yes m
  unfolding admit_m
  admit_yes z = rw (← ew, ← en, eq-eqb n 0 z)

  pub admit_not : (n ≡ 0 → ⊥) → m ≡ admit_m f x i Yes m
  unfolding admit_m
  admit_not z = rw (← ew, ← en, ne_eqb n 0 z)

module _ (f x : List ℕ) (v : Move) (i w : ℕ) (b : Bool) (m : Machine) (ew : w ≡ word x i 3) (is : b ≡ any_m f v w) where
  pub offer_yes : (j : Judged) (u : ℕ) → b ≡ true → j ≡ all_m f x m.values m.now u → u ≡ word x i 4 →
      offer_as_m f x i j.truth m ≡ offer_m f x v i m
  unfolding offer_m
  offer_yes j u e ej eu =
      rw (← ew, ← is, e) (ap (λ z. offer_as_m f x i z.truth m) (ej ∙ ap (all_m f x m.values m.now) eu))

  pub offer_no : b ≡ false → m ≡ offer_m f x v i m
  unfolding offer_m
  offer_no e = rw (← ew, ← is, e)

pub offer_none : (f x : List ℕ) (v : Move) (m : Machine) → m ≡ offer_first_m f x v 0 m
unfolding offer_first_m
offer_none f x v m = refl

pub offer_more : (f x : List ℕ) (v : Move) (i : ℕ) (m : Machine) →
    offer_m f x v i (offer_first_m f x v i m) ≡ offer_first_m f x v (i + 1) m
unfolding offer_first_m
offer_more f x v i m = rw (add-one i)

pub trigger_is : (f x : List ℕ) (v : Move) (i n : ℕ) (m : Machine) → i ≡ n → n ≡ at_most (get_or x 1 0) 32 →
    offer_first_m f x v i (wake_m f v m) ≡ trigger_m f x v m
unfolding trigger_m rules
trigger_is f x v i n m e g = ap (λ z. offer_first_m f x v z (wake_m f v m)) (e ∙ g)
