-- What a change sets off: the runs that wait for it wake, and each automation is offered it.
-- The machine wakes run after run; the definition wakes all at once.
use Rattle.std.specs.Prelude.{if◌then◌else◌, Option, Some, None}
use mathlib.Core.Path.{◌≡◌, refl, sym, ap, ◌∙◌, subst}
use mathlib.Core.List.{List, [], ◌∷◌, ◌++◌, append-nil}
use mathlib.Core.Bool.{Bool, true, false}
use mathlib.Core.Option.{none, some}
use Prim.Native.Nat.{ℕ, zero, suc, ◌+◌, ◌≤◌, ◌<◌}
use native.Mathlib.Omega.{arith}
use lib.ListN.{length, get_or, set, take, drop, length-set, drop_of_length-le}
use lib.Seq.{take-suc, drop-cons, take_all, length-take-le, get_or-set_other, append_snoc}
use lib.Dec.{ltb, eqb}
use borrow.Author.Tests.{eq-eqb, ne_eqb}
use Rattle.texts.specs.Lists.{any, keep, each, through, present_and}
use Rattle.texts.specs.Texts.{Text}
use Rattle.model_spec.specs.Model.{Automation, Model}
use Rattle.model_spec.specs.File.{got, times, give, u16, counted, place, trigger}
use Rattle.queue.specs.declared.Work.{Work as QWork}
use Rattle.runs.specs.declared.Wait.{Wait}
use Rattle.runs.specs.declared.Run.{Run as ARun}
use Rattle.engine_spec.specs.Kleene as kleene
use Rattle.engine_spec.specs.Truth.{moment_after, matches, evaluate_all}
use Rattle.engine_spec.specs.Records.{Run, Item, Kind, Engine}
use Rattle.engine_spec.specs.Words.{truth_number, kind_number, detail_number}
use Rattle.engine_spec.specs.Changes.{with_runs, add, adds}
use Rattle.engine_spec.specs.Reasons.{unknown_trigger_condition}
use Rattle.engine_spec.specs.Engine.{moment, waits, awaits, woken, next_step, log, wake, admit, offer}
use Rattle.engine_spec.specs.Engine as engine
use Rattle.engine_spec.proofs.Lists.{keep_append}
use Rattle.engine_spec.proofs.Closed.{c_admit, c_offers}
use Rattle.model_walk.proofs.Found.{Case, is_true, is_false, case, counted_found}
use Rattle.model_parts.proofs.Stands.{more}
use Rattle.engine_fields.specs.Fields.{two, word, about_rule}
use Rattle.engine_fields.specs.Fields as reads
use Rattle.engine_evaluate.specs.Evaluate.{number_m, matches_m, any_m, all_m}
use Rattle.engine_evaluate.specs.declared.Truth.{Truth}
use Rattle.engine_evaluate.specs.declared.Truth.TheVariants.{Yes, No, Unknown}
use Rattle.engine_state.specs.declared.Move.{Move}
use Rattle.engine_state.specs.Machine.{Machine}
use Rattle.engine_state.specs.Changes.{add_m, next_step_m}
use Rattle.engine_modes.specs.Modes.{now_m}
use Rattle.engine_trigger.specs.Runs.{no_run, run_m, put_run_m, phase_m, wake_phase_m, wake_run_m, wake_one_m, wake_first_m, wake_m}
use Rattle.engine_trigger.specs.Triggers.{admit_m, log_trigger_m, offer_as_m, offer_m, offer_first_m, trigger_m}
use Rattle.engine_refinement.specs.Meaning.{
  truth_of,
  verdict_of,
  found_trigger,
  id_at,
  kind_of,
  meant_run,
  wait_of,
  Row,
  Tabled,
}
use Rattle.engine_refinement.proofs.Numbers.{two_is, most_is, source_is}
use Rattle.engine_refinement.proofs.Evaluate.{Moved, matches_is, any_is, all_is}
use Rattle.engine_refinement.proofs.Full.{s_admit, s_offer, s_wake_one}
use Rattle.engine_refinement.proofs.Overflow.{overflow_stays}
use Rattle.engine_refinement.proofs.Relation.{
  GoodRun,
  GoodPhase,
  Running,
  Live,
  Sim,
  live,
  dead,
  follow,
  weaker,
  runs_are,
  placed,
  uncertain_is,
  no_rule,
}
use Rattle.engine_refinement.proofs.Words.{Tells}
use Rattle.engine_refinement.proofs.Pool.{pool_is, trigger_reason}
use Rattle.engine_refinement.proofs.Update.{Over, log_at_is, now_is}
use Rattle.engine_refinement.proofs.Runs.{row, id_is, run_good, run_is, carry_is}
use Rattle.engine_refinement.proofs.Lists as lists
use Rattle.engine_trigger.proofs.Laws as laws
use Rattle.reasons.specs.Kinds as kinds

-- ---- the queue and the runs don't meet

pub adds_end : (l : List Item) (i : Item) (e : Engine) → adds (l ++ i ∷ []) e ≡ add i (adds l e)
unfolding adds through
adds_end [] i e = refl
adds_end (j ∷ l) i e = adds_end l i (add j e)

adds_runs : (l : List Item) (e : Engine) → (adds l e).runs ≡ e.runs
unfolding adds through add
adds_runs [] e = refl
adds_runs (i ∷ l) e = adds_runs l (add i e)

with_add : (k : List Run) (i : Item) (e : Engine) → add i (with_runs k e) ≡ with_runs k (add i e)
unfolding add with_runs
with_add k i e = refl

with_twice : (k n : List Run) (e : Engine) → with_runs k (with_runs n e) ≡ with_runs k e
unfolding with_runs
with_twice k n e = refl

adds_with : (l : List Item) (k n : List Run) (e : Engine) → with_runs k (adds l (with_runs n e)) ≡ adds l (with_runs k e)
unfolding adds through
adds_with [] k n e = with_twice k n e
adds_with (i ∷ l) k n e =
    ap (λ (y : Engine). with_runs k (through add l y)) (with_add n i e)
    ∙ adds_with l k n (add i e)
    ∙ ap (λ (y : Engine). through add l y) (sym (with_add k i e))

with_own : (e : Engine) → with_runs e.runs e ≡ e
unfolding with_runs
with_own e = refl

set_mid : {B : Type 0} (a : List B) (q y : B) (d : List B) (n : ℕ) → length a ≡ n → set (a ++ q ∷ d) n y ≡ a ++ y ∷ d
set_mid [] q y d zero h = refl
set_mid [] q y d (suc n) h = absurd (omega arith)
set_mid (b ∷ a) q y d zero h = absurd (omega arith)
set_mid {B} (b ∷ a) q y d (suc n) h = ap (λ (l : List B). b ∷ l) (set_mid a q y d n (omega arith))

-- ---- the definition's runs, woken one after the other
module _ (now : ℕ) (X Y Z : Text) (e : Engine) (d : Run) where
  abbrev rs : List Run
  rs = e.runs

  abbrev wk : Run → Run
  wk = woken X Y Z

  abbrev items : List Run → List Item
  items l = each (next_step now) (keep (awaits X Y Z) l)

  -- the first n runs woken
  wake_to : ℕ → Engine
  wake_to n = adds (items (take n rs)) (with_runs (each wk (take n rs) ++ drop n rs) e)

  to_runs : (n : ℕ) → (wake_to n).runs ≡ each wk (take n rs) ++ drop n rs
  unfolding wake_to with_runs
  to_runs n = adds_runs (items (take n rs)) (with_runs (each wk (take n rs) ++ drop n rs) e)

  to_none : wake_to 0 ≡ e
  unfolding wake_to each keep adds through
  to_none = with_own e

  to_all : (n : ℕ) → length rs ≤ n → wake_to n ≡ wake now X Y Z e
  unfolding wake_to wake
  to_all n h = rw (take_all n rs h, drop_of_length-le rs h, append-nil (each wk rs))

  module _ (n : ℕ) (h : n < length rs) where
    abbrev Q : Run
    Q = get_or rs n d

    items_stay : awaits X Y Z Q ≡ false → items (take (suc n) rs) ≡ items (take n rs)
    unfolding keep
    items_stay b =
        ap items (take-suc rs n d h)
        ∙ ap (each (next_step now))
        (keep_append (awaits X Y Z) (take n rs) (Q ∷ []) ∙ rw b (append-nil (keep (awaits X Y Z) (take n rs))))

    items_more : awaits X Y Z Q ≡ true → items (take (suc n) rs) ≡ items (take n rs) ++ next_step now Q ∷ []
    unfolding keep
    items_more b =
        ap items (take-suc rs n d h)
        ∙ ap (each (next_step now)) (keep_append (awaits X Y Z) (take n rs) (Q ∷ []) ∙ rw b)
        ∙ lists.each_one (next_step now) (keep (awaits X Y Z) (take n rs)) Q

    runs_next : each wk (take (suc n) rs) ++ drop (suc n) rs ≡ each wk (take n rs) ++ wk Q ∷ drop (suc n) rs
    runs_next =
        ap (λ (l : List Run). each wk l ++ drop (suc n) rs) (take-suc rs n d h)
        ∙ ap (λ (l : List Run). l ++ drop (suc n) rs) (lists.each_one wk (take n rs) Q)
        ∙ append_snoc (each wk (take n rs)) (wk Q) (drop (suc n) rs)

    to_stay : awaits X Y Z Q ≡ false → wake_to (suc n) ≡ wake_to n
    unfolding wake_to woken
    to_stay b =
        let w : wk Q ≡ Q = rw b in
        ap (λ (l : List Item). adds l (with_runs (each wk (take (suc n) rs) ++ drop (suc n) rs) e)) (items_stay b)
        ∙ ap (λ (l : List Run). adds (items (take n rs)) (with_runs l e))
        (runs_next ∙ ap (λ (y : Run). each wk (take n rs) ++ y ∷ drop (suc n) rs) w
        ∙ ap (λ (l : List Run). each wk (take n rs) ++ l) (sym (drop-cons rs n d h)))

    to_wake : awaits X Y Z Q ≡ true →
        wake_to (suc n) ≡ add (next_step now Q) (with_runs (set (wake_to n).runs n (waits none Q)) (wake_to n))
    unfolding wake_to woken
    to_wake b =
        let w : wk Q ≡ waits none Q = rw b in
        let long : length (each wk (take n rs)) ≡ n = lists.each_length wk (take n rs) ∙ length-take-le n rs (omega arith) in
        let z : each wk (take (suc n) rs) ++ drop (suc n) rs ≡ set (wake_to n).runs n (waits none Q) =
        runs_next ∙ ap (λ (y : Run). each wk (take n rs) ++ y ∷ drop (suc n) rs) w
        ∙ sym (set_mid (each wk (take n rs)) Q (waits none Q) (drop (suc n) rs) n long)
        ∙ ap (λ (l : List Run). set l n (waits none Q))
        (ap (λ (l : List Run). each wk (take n rs) ++ l) (sym (drop-cons rs n d h)) ∙ sym (to_runs n)) in
        ap (λ (l : List Item). adds l (with_runs (each wk (take (suc n) rs) ++ drop (suc n) rs) e)) (items_more b)
        ∙ adds_end (items (take n rs)) (next_step now Q) (with_runs (each wk (take (suc n) rs) ++ drop (suc n) rs) e)
        ∙ ap (λ (l : List Run). add (next_step now Q) (adds (items (take n rs)) (with_runs l e))) z
        ∙ ap (add (next_step now Q))
        (sym (adds_with (items (take n rs)) (set (wake_to n).runs n (waits none Q)) (each wk (take n rs) ++ drop n rs) e))

-- ---- the machine's runs
module _ (f : List ℕ) (v : Move) where
  -- the runs from the n-th on stay as they are
  pub record Untouched (n : ℕ) (m k : Machine) : Type 0 where
    pub long : length k.runs ≡ length m.runs
    pub same : (j : ℕ) → n ≤ j → get_or k.runs j no_run ≡ get_or m.runs j no_run

  next_runs : (r : ARun) (t : ℕ) (m : Machine) → (next_step_m r t m).runs ≡ m.runs
  unfolding next_step_m add_m
  next_runs r t m = by (eqb m.«overflow» 0) (ltb (length m.queue) m.queue_size) _ _ refl refl
    where
      by : (a b : Bool) (p q : Machine) → p.runs ≡ m.runs → q.runs ≡ m.runs →
          (if a then (if b then p else q) else m).runs ≡ m.runs
      by true true p q g h = g
      by true false p q g h = h
      by false b p q g h = refl

  itself : (n : ℕ) (m : Machine) → Untouched n m m
  itself n m = record { long = refl; same = λ j h. refl }

  put_untouched : (k : ℕ) (r y : ARun) (m : Machine) → Untouched (suc k) m (now_m r (put_run_m k y m))
  put_untouched k r y m = record {
    long = ap length (next_runs r m.now (put_run_m k y m)) ∙ length-set m.runs k y;
    same = λ j h. ap (λ (l : List ARun). get_or l j no_run) (next_runs r m.now (put_run_m k y m))
        ∙ get_or-set_other m.runs k j y no_run (λ e. absurd (omega arith));
  }

  phase_untouched : (k : ℕ) (r : ARun) (p : Option Wait) (m : Machine) → Untouched (suc k) m (wake_phase_m f v k r p m)
  unfolding wake_phase_m
  phase_untouched k r None m = itself (suc k) m
  phase_untouched k r (Some w) m = by (matches_m f v w.trigger)
    where
      by : (b : Bool) → Untouched (suc k) m (if b then now_m r (put_run_m k (phase_m None r) m) else m)
      by true = put_untouched k r (phase_m None r) m
      by false = itself (suc k) m

  wake_untouched : (n : ℕ) (m : Machine) → Untouched n m (wake_first_m f v n m)
  unfolding wake_first_m wake_one_m wake_run_m
  wake_untouched zero m = itself 0 m
  wake_untouched (suc n) m =
      let a = wake_untouched n m in
      let b = phase_untouched n (run_m n (wake_first_m f v n m)) (run_m n (wake_first_m f v n m)).phase (wake_first_m f v n m) in
      record { long = b.long ∙ a.long; same = λ j h. b.same j h ∙ a.same j (omega arith) }

module _ (f x : List ℕ) (ts : List Text) (mo : Model) (tb : Tabled f x ts mo) where
  abbrev T : ℕ → Text
  T p = get_or ts p []

  abbrev rules : ℕ
  rules = length mo.rules

  abbrev A : ℕ → Automation
  A i = get_or mo.rules i no_rule

  abbrev L : ℕ → ℕ → Machine → Engine → Type 0
  L = Live f x ts mo tb

  abbrev S : ℕ → ℕ → Machine → Engine → Type 0
  S = Sim f x ts mo tb

  abbrev R : ARun → Run
  R = meant_run x ts f

  -- ---- an automation that is offered a change

  data Noted (p : ℕ) (l : List Text) : Type 0 where
    clear : eqb (two f p) 0 ≡ true → l ≡ [] → Noted p l
    noted : eqb (two f p) 0 ≡ false → (t : Text) (k : List Text) → l ≡ t ∷ k → Noted p l

  notes_are : (p : ℕ) (l : List Text) (q : ℕ) → counted (place ts) f p ≡ got l q → Noted p l
  unfolding times give
  notes_are p l q e = let c = counted_found (place ts) e in by c.count c.start c.is_count c.are_values
    where
      by : (n s : ℕ) → u16 f p ≡ got n s → times n (place ts) f s ≡ got l q → Noted p l
      by zero s c e = let z : l ≡ [] = cc in clear (eq-eqb (two f p) 0 (two_is f p c)) z
      by (suc n) s c e = let o = more (place ts) f n s e in
          noted (ne_eqb (two f p) 0 (λ y. absurd (omega (arith, two_is f p c)))) o.first o.others o.both

  module _ (now i : ℕ) (h : i < rules) where
    admit_is : {room : ℕ} {m : Machine} {e : Engine} → L now (suc room) m e → (t : Truth) →
        S now room (admit_m f x i t m) (admit now (truth_of t) (A i) e)
    unfolding admit_m admit
    admit_is {room} {m} {e} l Yes =
        by (notes_are (word x i 7) (A i).notes (row f x ts mo tb i h).notes.0 (row f x ts mo tb i h).notes.1)
      where
        by : Noted (word x i 7) (A i).notes → S now room (admit_m f x i Yes m) (admit now kleene.Yes (A i) e)
        by (clear b z) = rw (b, z, admit) (carry_is f x ts mo tb l i h)
        by (noted b t k z) = rw (b, z, admit) (live (weaker f x ts mo tb (omega arith) l))
    admit_is l No = live (weaker f x ts mo tb (omega arith) l)
    admit_is {room} {m} {e} l Unknown =
        rw (id_is f x ts mo tb i h)
        (live (uncertain_is f x ts mo tb (weaker f x ts mo tb (omega arith) l) (about_rule f x i kinds.trigger_condition)
        (unknown_trigger_condition (id_at x ts i)) (trigger_reason f x ts mo tb i h)
        (pool_is f x ts mo tb i h).trigger))

    triggering : (t : Truth) → Tells f x ts mo tb 10 (number_m t) (Kind.trigger (truth_of t))
    unfolding kind_of verdict_of kind_number detail_number truth_number
    triggering Yes = record { is = refl; number = refl; detail = refl }
    triggering No = record { is = refl; number = refl; detail = refl }
    triggering Unknown = record { is = refl; number = refl; detail = refl }

    offer_as_is : {room : ℕ} {m : Machine} {e : Engine} → L now (suc room) m e → (t : Truth) →
        S now room (offer_as_m f x i t m)
        (admit now (truth_of t) (A i) (log now (Kind.trigger (truth_of t)) (some (A i).id) (some (A i).source) none e))
    unfolding offer_as_m log_trigger_m
    offer_as_is {room} {m} {e} l t =
        let s = source_is f (word x i 6) (row f x ts mo tb i h).source.1 in
        follow f x ts mo tb (admit_m f x i t) (admit now (truth_of t) (A i))
        (rw (id_is f x ts mo tb i h, s.line, s.column)
        (log_at_is f x ts mo tb l 10 (number_m t) i (A i).source.line (A i).source.column (Kind.trigger (truth_of t))
        (triggering t) h))
        (λ k. admit_is k t)
        (λ n z p. s_admit n z f x i t _ p)
        (λ n o. c_admit (Over n) (overflow_stays n) now (truth_of t) (A i) _ o)

    offer_is : (v : Move) → Moved f x ts mo tb v → {room : ℕ} {m : Machine} {e : Engine} → L now (suc room) m e →
        S now room (offer_m f x v i m) (offer now (T v.entity) (T v.from) (T v.to) (A i) e)
    unfolding offer_m offer
    offer_is v w {room} {m} {e} l = by (case (any_m f v (word x i 3)))
      where
        r : Row f x ts mo.scenario.entities i (A i)
        r = row f x ts mo tb i h

        same : any_m f v (word x i 3) ≡ any (matches (T v.entity) (T v.from) (T v.to)) (A i).triggers
        same = any_is f x ts mo tb v w (word x i 3) (A i).triggers r.triggers.0 r.triggers.1

        verdict : truth_of (all_m f x m.values m.now (word x i 4)).truth
            ≡ evaluate_all (moment now e) (A i).conditions e.cells
        verdict =
            (all_is f x ts mo tb m.values m.versions l.cells.valued m.now (word x i 4) (A i).conditions
            r.conditions.0 r.conditions.1).is
            ∙ (λ j. evaluate_all (moment_after (sym l.start j) (l.time j)) (A i).conditions (sym l.cells.is j))

        by : Case (any_m f v (word x i 3)) →
            S now room (offer_m f x v i m) (offer now (T v.entity) (T v.from) (T v.to) (A i) e)
        by (is_true b) = rw (b, sym same ∙ b, ← verdict) (offer_as_is l (all_m f x m.values m.now (word x i 4)).truth)
        by (is_false b) = rw (b, sym same ∙ b) (live (weaker f x ts mo tb (omega arith) l))

  through_end : {B : Type 0} (g : B → Engine → Engine) (l : List B) (b : B) (e : Engine) →
      through g (l ++ b ∷ []) e ≡ g b (through g l e)
  unfolding through
  through_end g [] b e = refl
  through_end g (c ∷ l) b e = through_end g l b (g c e)

  over_offer : (n now : ℕ) (X Y Z : Text) (r : Automation) (e : Engine) → Over n e → Over n (offer now X Y Z r e)
  unfolding through
  over_offer n now X Y Z r e o = c_offers (Over n) (overflow_stays n) now X Y Z (r ∷ []) e o

  -- each of the n automations may begin a run
  offers_is : (now : ℕ) (v : Move) → Moved f x ts mo tb v → (n room all : ℕ) → n ≤ rules → all ≡ n + room →
      {m : Machine} {e : Engine} → S now all m e →
      S now room (offer_first_m f x v n m) (through (offer now (T v.entity) (T v.from) (T v.to)) (take n mo.rules)
      e)
  unfolding offer_first_m through
  offers_is now v w zero room all h q {m} {e} s =
      let z : all ≡ room = omega arith in
      subst (λ (i : ℕ). S now i m e) z s
  offers_is now v w (suc n) room all h q {m} {e} s =
      rw (
        take-suc mo.rules n no_rule (omega arith),
        through_end (offer now (T v.entity) (T v.from) (T v.to))
            (take n mo.rules) (A n) e,
      )
      (follow f x ts mo tb (offer_m f x v n) (offer now (T v.entity) (T v.from) (T v.to) (A n))
      (offers_is now v w n (suc room) all (omega arith) (omega arith) s)
      (λ k. offer_is now n (omega arith) v w k)
      (λ i z p. s_offer i z f x v n _ p)
      (λ i o. over_offer i now _ _ _ (A n) _ o))

  -- ---- runs that wake

  module _ (now : ℕ) (v : Move) (w : Moved f x ts mo tb v) where
    abbrev aw : Run → Bool
    aw = awaits (T v.entity) (T v.from) (T v.to)

    data Woke (k : ℕ) (r : ARun) (m : Machine) : Type 0 where
      stays : aw (R r) ≡ false → wake_run_m f v k r m ≡ m → Woke k r m
      wakes : aw (R r) ≡ true → wake_run_m f v k r m ≡ now_m r (put_run_m k (phase_m None r) m) → Woke k r m

    woke : (k : ℕ) (r : ARun) (m : Machine) → (p : Option Wait) → r.phase ≡ p → GoodPhase f x ts mo tb p → Woke k r m
    unfolding wake_run_m wake_phase_m awaits present_and meant_run wait_of found_trigger
    woke k r m None e g = stays (rw (e, present_and)) (rw (e, wake_phase_m))
    woke k r m (Some y) e g = by (case (matches_m f v y.trigger))
      where
        same : matches_m f v y.trigger ≡ matches (T v.entity) (T v.from) (T v.to) g.0
        same = (matches_is f x ts mo tb y.trigger g.0 g.1.0 g.1.1).is v w

        by : Case (matches_m f v y.trigger) → Woke k r m
        by (is_true b) = wakes (rw (e, present_and, g.1.1, found_trigger) (sym same ∙ b)) (sym (laws.wake_yes f v k r m y _ e refl b))
        by (is_false b) = stays (rw (e, present_and, g.1.1, found_trigger) (sym same ∙ b)) (sym (laws.wake_no f v k r m y _ e refl b))

    -- the definition's runs, with the first n woken
    abbrev to : Engine → ℕ → Engine
    to e n = wake_to now (T v.entity) (T v.from) (T v.to) e (R no_run) n

    module _ {room : ℕ} {m : Machine} {e : Engine} (l : L now room m e) (n : ℕ) (h : n < length m.runs) where
      abbrev r : ARun
      r = get_or m.runs n no_run

      long_e : n < length e.runs
      long_e = omega (arith, h, ap length l.runs.is ∙ lists.each_length R m.runs)

      own : get_or e.runs n (R no_run) ≡ R r
      own = ap (λ (y : List Run). get_or y n (R no_run)) l.runs.is ∙ lists.each_at R m.runs n no_run

      abbrev e_stay : aw (R r) ≡ false → to e (suc n) ≡ to e n
      e_stay b = to_stay now (T v.entity) (T v.from) (T v.to) e (R no_run) n long_e (ap aw own ∙ b)

      e_wake : aw (R r) ≡ true →
          to e (suc n) ≡ add (next_step now (R r)) (with_runs (set (to e n).runs n (waits none (R r))) (to e n))
      e_wake b =
          to_wake now (T v.entity) (T v.from) (T v.to) e (R no_run) n long_e (ap aw own ∙ b)
          ∙ ap (λ (y : Run). add (next_step now y) (with_runs (set (to e n).runs n (waits none y)) (to e n))) own

      over_step : (i : ℕ) → Over i (to e n) → Over i (to e (suc n))
      over_step i o = by (case (aw (R r)))
        where
          by : Case (aw (R r)) → Over i (to e (suc n))
          by (is_true b) =
              ap (λ (y : Engine). y.overflow) (e_wake b)
              ∙ (overflow_stays i).on_add _ _ ((overflow_stays i).on_runs _ _ o)
          by (is_false b) = ap (λ (y : Engine). y.overflow) (e_stay b) ∙ o

      module _ (k : Machine) (u : Untouched f v n m k) (y : L now room k (to e n)) where
        long_k : n < length k.runs
        long_k = omega (arith, h, u.long)

        same : get_or k.runs n no_run ≡ r
        same = u.same n (omega arith)

        good : GoodRun f x ts mo tb k.sequences r
        good = subst (GoodRun f x ts mo tb k.sequences) same (run_good f x ts mo tb y n long_k)

        calm_good : GoodRun f x ts mo tb k.sequences (phase_m None r)
        calm_good = record { rule = good.rule; old = good.old; places = good.places; phase = tt }

        going : R (phase_m None r) ≡ waits none (R r)
        unfolding meant_run
        going = refl

        woken_live : L now room (put_run_m n (phase_m None r) k)
            (with_runs (set (to e n).runs n (waits none (R r))) (to e n))
        woken_live =
            runs_are f x ts mo tb y (set k.runs n (phase_m None r)) _
            (subst (λ (q : Run). Running f x ts mo tb k.sequences (set k.runs n (phase_m None r))
            (set (to e n).runs n q)) going (placed f x ts mo tb k.sequences k.runs (to e n).runs y.runs
            n long_k (phase_m None r) calm_good (ap (λ (q : ARun). q.automation) same)
            (ap (λ (q : ARun). q.sequence) same)))

        one_is : wake_one_m f v n k ≡ wake_run_m f v n r k
        unfolding wake_one_m
        one_is = ap (λ (q : ARun). wake_run_m f v n q k) (run_is f x ts mo tb y n long_k ∙ same)

        live_step : S now room (wake_one_m f v n k) (to e (suc n))
        live_step = by (woke n r k r.phase refl good.phase)
          where
            by : Woke n r k → S now room (wake_one_m f v n k) (to e (suc n))
            by (stays b o) = rw (one_is ∙ o, e_stay b) (live y)
            by (wakes b o) = rw (one_is ∙ o, e_wake b) (now_is f x ts mo tb woken_live r good.rule)

    wake_firsts : {room : ℕ} {m : Machine} {e : Engine} → L now room m e → (n : ℕ) → n ≤ length m.runs →
        S now room (wake_first_m f v n m) (to e n)
    unfolding wake_first_m
    wake_firsts {room} {m} {e} l zero h = rw (to_none now (T v.entity) (T v.from) (T v.to) e (R no_run)) (live l)
    wake_firsts {room} {m} {e} l (suc n) h = by (wake_firsts l n (omega arith))
      where
        by : S now room (wake_first_m f v n m) (to e n) → S now room (wake_one_m f v n (wake_first_m f v n m)) (to e (suc n))
        by (live y) = live_step l n (omega arith) (wake_first_m f v n m) (wake_untouched f v n m) y
        by (dead i z p o) = dead i z (s_wake_one i z f v n _ p) (over_step l n (omega arith) i o)

    pub wake_is : {room : ℕ} {m : Machine} {e : Engine} → L now room m e →
        S now room (wake_m f v m) (wake now (T v.entity) (T v.from) (T v.to) e)
    unfolding wake_m
    wake_is {room} {m} {e} l =
        let long = ap length l.runs.is ∙ lists.each_length R m.runs in
        subst (S now room (wake_first_m f v (length m.runs) m))
        (to_all now (T v.entity) (T v.from) (T v.to) e (R no_run) (length m.runs) (omega (arith, long)))
        (wake_firsts l (length m.runs) (omega arith))

    rules_are : reads.rules x ≡ rules
    unfolding reads.rules
    rules_are = most_is (get_or x 1 0) 32 (omega (arith, tb.automations, tb.few_automations)) ∙ tb.automations

    pub trigger_is : {room : ℕ} {m : Machine} {e : Engine} → L now (room + 32) m e →
        S now room (trigger_m f x v m) (engine.trigger now (T v.entity) (T v.from) (T v.to) mo.rules e)
    unfolding trigger_m engine.trigger
    trigger_is {room} {m} {e} l =
        let few : L now (rules + room) m e = weaker f x ts mo tb (omega (arith, tb.few_automations)) l in
        let a = offers_is now v w rules room (rules + room) (omega arith) refl (wake_is few) in
        rw rules_are
        (subst (λ (k : List Automation). S now room (offer_first_m f x v rules (wake_m f v m))
        (through (offer now (T v.entity) (T v.from) (T v.to)) k
        (wake now (T v.entity) (T v.from) (T v.to) e))) (take_all rules mo.rules (omega arith)) a)
