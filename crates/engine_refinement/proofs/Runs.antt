-- Runs that are stored, end and begin: the machine's are the definition's.
-- `Keyed k r m`: the run at k has the automation, the sequence and the number of r.
use Rattle.std.specs.Prelude.{if◌then◌else◌, Some, None}
use mathlib.Core.Path.{◌≡◌, refl, sym, ap, ◌∙◌, subst}
use mathlib.Core.List.{List, [], ◌∷◌, ◌++◌}
use mathlib.Core.Bool.{Bool, true, false}
use mathlib.Core.Option.{none, some}
use Prim.Native.Nat.{ℕ, zero, suc, ◌+◌, ◌<◌}
use native.Mathlib.Omega.{arith}
use lib.ListN.{length, get_or, set, take, drop, replicate, length-replicate}
use lib.Seq.{take_at}
use lib.Dec.{leb}
use borrow.Author.Tests.{ne_eqb}
use Rattle.texts.specs.Lists.{find, tally, through}
use Rattle.texts.specs.Texts.{Text}
use Rattle.model_spec.specs.Model.{Mode, single, queued, parallel, Actions, done, act, Automation, Model}
use Rattle.runs.specs.Runs.{whole, fit, in_line, run_of}
use Rattle.runs.specs.Lists.{place_from}
use Rattle.runs.specs.Lists as places
use Rattle.runs.specs.declared.Run.{Run as ARun}
use Rattle.engine_spec.specs.Records.{Run, Kind, Engine}
use Rattle.engine_spec.specs.Words.{kind_number, detail_number}
use Rattle.engine_spec.specs.Changes.{if_some, add, add_run, adds}
use Rattle.engine_spec.specs.Modes.{decide}
use Rattle.engine_spec.specs.Modes as modes
use Rattle.engine_spec.specs.Engine.{
  queued_for,
  of_rule,
  store,
  fresh_run,
  ◌then◌,
  next_step,
  log_rule,
  let_go,
  release,
  finish,
  begin,
  carry_out,
}
use Rattle.engine_spec.proofs.Closed.{c_log, c_release, c_begin}
use Rattle.engine_fields.specs.Fields.{word}
use Rattle.engine_state.specs.Machine.{Machine, more}
use Rattle.engine_state.specs.Changes.{log_rule_m}
use Rattle.engine_modes.specs.Modes.{
  now_m,
  new_run,
  begin_run_m,
  begin_now_m,
  begin_queued_m,
  begin_later_m,
  drop_m,
  stop_start_m,
  decide_m,
  decided_m,
  carry_with_m,
  carry_out_m,
}
use Rattle.engine_trigger.specs.Runs.{
  no_run,
  run_m,
  put_run_m,
  released_m,
  release_run_m,
  release_at_m,
  release_m,
  out_m,
  finish_run_m,
  finish_m,
}
use Rattle.engine_modes.specs.declared.Decision.{Decision}
use Rattle.engine_modes.specs.declared.Decision.TheVariants.{AlreadyRunning, MaxReached, Start, StopAndStart, WaitInLine}
use Rattle.engine_refinement.specs.Meaning.{
  id_at,
  key_of,
  kind_of,
  meant_run,
  actions_at,
  pool_of,
  mode_number,
  Row,
  Tabled,
}
use Rattle.engine_refinement.proofs.Numbers.{more_is}
use Rattle.engine_refinement.proofs.Checked.{Pass}
use Rattle.engine_refinement.proofs.Stack.{Places, pushed}
use Rattle.engine_refinement.proofs.Full.{s_log_rule, s_release, s_next, s_begin_now}
use Rattle.engine_refinement.proofs.Overflow.{overflow_stays}
use Rattle.engine_refinement.proofs.Relation.{
  GoodRun,
  Made,
  NewRun,
  Live,
  Sim,
  live,
  follow,
  weaker,
  runs_are,
  add_run_is,
  stored,
  removed,
  dropped,
  count_is,
  line_test,
  no_rule,
}
use Rattle.engine_refinement.proofs.Words.{Tells}
use Rattle.engine_refinement.proofs.Pool.{pool_is}
use Rattle.engine_refinement.proofs.Update.{Over, log_rule_is, now_is}
use Rattle.engine_refinement.proofs.Lists as lists

over_rule : (n now : ℕ) (K : Kind) (t : Text) (e : Engine) → Over n e → Over n (log_rule now K t e)
unfolding log_rule
over_rule n now K t e o = c_log (Over n) (overflow_stays n) now K (some t) none none e o

module _ (f x : List ℕ) (ts : List Text) (mo : Model) (tb : Tabled f x ts mo) where
  abbrev rules : ℕ
  rules = length mo.rules

  abbrev L : ℕ → ℕ → Machine → Engine → Type 0
  L = Live f x ts mo tb

  abbrev S : ℕ → ℕ → Machine → Engine → Type 0
  S = Sim f x ts mo tb

  abbrev G : List ℕ → ARun → Type 0
  G = GoodRun f x ts mo tb

  abbrev R : ARun → Run
  R = meant_run x ts f

  abbrev Says : ℕ → ℕ → Kind → Type 0
  Says = Tells f x ts mo tb

  -- ---- the run at a place

  -- a run with just 17 places is read back as it is
  pub whole_is : (r : ARun) → length r.places ≡ 17 → whole r ≡ r
  unfolding fit
  whole_is r h = rw (take_at r.places (replicate 17 0) 17 h)

  pub run_good : {now s : ℕ} {m : Machine} {e : Engine} → L now s m e → (k : ℕ) → k < length m.runs →
      G m.sequences (get_or m.runs k no_run)
  run_good {now} {s} {m} l k h = lists.each_get_d (G m.sequences) m.runs k no_run h l.runs.good

  pub run_is : {now s : ℕ} {m : Machine} {e : Engine} → L now s m e → (k : ℕ) → k < length m.runs →
      run_m k m ≡ get_or m.runs k no_run
  unfolding run_m
  run_is {now} {s} {m} l k h = whole_is (get_or m.runs k no_run) (run_good l k h).places.long

  pub record Keyed (k : ℕ) (r : ARun) (m : Machine) : Type 0 where
    pub inside : k < length m.runs
    pub automation : (get_or m.runs k no_run).automation ≡ r.automation
    pub sequence : (get_or m.runs k no_run).sequence ≡ r.sequence
    pub number : (get_or m.runs k no_run).number ≡ r.number

  pub store_is : {now s : ℕ} {m : Machine} {e : Engine} → L now s m e → (k : ℕ) → k < length m.runs → (r : ARun) →
      G m.sequences r → (get_or m.runs k no_run).automation ≡ r.automation →
      (get_or m.runs k no_run).sequence ≡ r.sequence → L now s (put_run_m k r m) (store (R r) e)
  unfolding store
  store_is {now} {s} {m} {e} l k h r g a n =
      runs_are f x ts mo tb l (set m.runs k r) _
      (stored f x ts mo tb m.sequences m.runs e.runs l.runs k h r g a n)

  -- ---- ends

  let_go_is : {now s : ℕ} {m : Machine} {e : Engine} → L now s m e → (k : ℕ) → k < length m.runs →
      S now s (release_run_m k (get_or m.runs k no_run) m) (let_go now (R (get_or m.runs k no_run)) e)
  unfolding release_run_m let_go meant_run
  let_go_is {now} {s} {m} {e} l k o =
      let r = get_or m.runs k no_run in
      let g = run_good l k o in
      now_is f x ts mo tb
      (store_is l k o (released_m r) (record { rule = g.rule; old = g.old; places = g.places; phase = g.phase })
      refl refl) r
      g.rule

  pub release_is : {now s : ℕ} {m : Machine} {e : Engine} → L now s m e → (a : ℕ) → a < rules →
      S now s (release_m a m) (release now (id_at x ts a) e)
  unfolding release_m release release_at_m if_some
  release_is {now} {s} {m} {e} l a h =
      cases
      (lists.sought R (in_line a) (queued_for (id_at x ts a)) no_run m.runs 0
      (lists.each_imp (G m.sequences) _ (line_test f x ts mo tb m.sequences a h) m.runs l.runs.good))
    where
      cases : lists.Sought R (in_line a) (queued_for (id_at x ts a)) no_run m.runs (place_from (in_line a) 0 m.runs) 0 →
          S now s (release_at_m (place_from (in_line a) 0 m.runs) m)
          (if_some (let_go now) (find (queued_for (id_at x ts a)) e.runs) e)
      cases (lists.here k p o q t) =
          let z : 0 + k ≡ k = omega arith in
          let y : find (queued_for (id_at x ts a)) e.runs ≡ some (R (get_or m.runs k no_run)) =
          ap (find (queued_for (id_at x ts a))) l.runs.is ∙ q in
          rw (p ∙ ap Some z, y, run_is l k o) (let_go_is l k o)
      cases (lists.nowhere p q) =
          let y : find (queued_for (id_at x ts a)) e.runs ≡ none = ap (find (queued_for (id_at x ts a))) l.runs.is ∙ q in
          rw (p, y) (live l)

  complete : (n : ℕ) → Says 14 n (Kind.complete n)
  unfolding kind_of kind_number detail_number
  complete n = record { is = refl; number = refl; detail = refl }

  -- the run at k ends
  finish_old : {now s : ℕ} {m : Machine} {e : Engine} → L now s m e → (k : ℕ) → k < length m.runs →
      S now s (finish_run_m k (get_or m.runs k no_run) m) (finish now (R (get_or m.runs k no_run)) e)
  unfolding finish_run_m out_m finish meant_run key_of
  finish_old {now} {s} {m} {e} l k h =
      let r = get_or m.runs k no_run in
      let g = run_good l k h in
      let l₁ = runs_are f x ts mo tb l (take k m.runs ++ drop (k + 1) m.runs) _
      (removed f x ts mo tb m.sequences m.runs e.runs l.runs k h r g refl refl) in
      follow f x ts mo tb (release_m r.automation) (release now (id_at x ts r.automation))
      (log_rule_is f x ts mo tb l₁ 14 r.number r.automation (Kind.complete r.number) (complete r.number)
      g.rule)
      (λ i. release_is i r.automation g.rule)
      (λ n z p. s_release n z r.automation _ p)
      (λ n o. c_release (Over n) (overflow_stays n) now (id_at x ts r.automation) _ o)

  same_finish : (now : ℕ) (r s : ARun) (e : Engine) → r.automation ≡ s.automation → r.sequence ≡ s.sequence →
      r.number ≡ s.number → finish now (R r) e ≡ finish now (R s) e
  unfolding finish meant_run key_of
  same_finish now r s e a b c = rw (a, b, c)

  pub finish_is : {now s : ℕ} {m : Machine} {e : Engine} → L now s m e → (k : ℕ) (r : ARun) → Keyed k r m →
      S now s (finish_m k m) (finish now (R r) e)
  unfolding finish_m
  finish_is {now} {s} {m} {e} l k r w =
      rw (run_is l k w.inside)
      (subst (S now s (finish_run_m k (get_or m.runs k no_run) m))
      (same_finish now (get_or m.runs k no_run) r e w.automation w.sequence w.number)
      (finish_old l k w.inside))

  -- ---- beginnings

  then_done : (a : Actions) → (a then done) ≡ a
  unfolding ◌then◌
  then_done done = refl
  then_done (act s g a) = ap (act s g) (then_done a)

  pub row : (i : ℕ) → i < rules → Row f x ts mo.scenario.entities i (get_or mo.rules i no_rule)
  row i h = tb.rows no_rule i h

  -- the run that begins is the definition's
  pub record Begins (sequences : List ℕ) (i : ℕ) (later : Bool) (made : List Text) (r : ARun) : Type 0 where
    pub new : NewRun f x ts mo tb sequences i r
    pub is : R r ≡ fresh_run (get_or mo.rules i no_rule) later made
    pub number : r.number ≡ length made + 1

  no_places : Places f x ts mo tb 0 (replicate 17 0)
  no_places = record { long = length-replicate {A = ℕ} 17 0; low = omega arith; at = λ j h. absurd (omega arith) }

  begins : (i : ℕ) → i < rules → (later : Bool) (n : ℕ) (sequences : List ℕ) (made : List Text) →
      Made f x ts mo tb n sequences made → n < 4294967295 →
      Pass mo.scenario.entities (pool_of mo) 0 (get_or mo.rules i no_rule).actions →
      Begins sequences i later made (new_run f x i later n sequences)
  unfolding new_run meant_run key_of fresh_run actions_at id_at
  begins i h later n sequences made g o t =
      let w = row i h in
      let r₀ : ARun = record {
        automation = i;
        sequence = get_or sequences i 0;
        number = more n;
        queued = later;
        phase =
            None;
        depth = 0;
        places = replicate 17 0;
      } in
      let p = pushed f x ts mo tb r₀ (word x i 5) (get_or mo.rules i no_rule).actions w.actions.0 0 no_places
      w.actions.1 t (omega arith) in
      rw p.is (record {
        new = record { automation = refl; sequence = refl; places = p.good; phase = refl };
        is = rw (
          p.all ∙ then_done (get_or mo.rules i no_rule).actions,
          more_is n o ∙ ap (λ (y : ℕ). y + 1) g.count,
          g.each_rule i h,
          ← w.id,
        );
        number = more_is n o ∙ ap (λ (y : ℕ). y + 1) g.count;
      })

  starting : (n : ℕ) → Says 12 n (Kind.start n)
  unfolding kind_of kind_number detail_number
  starting n = record { is = refl; number = refl; detail = refl }

  queueing : (n : ℕ) → Says 13 n (Kind.queued n)
  unfolding kind_of kind_number detail_number
  queueing n = record { is = refl; number = refl; detail = refl }

  -- the automation
  abbrev A : ℕ → Automation
  A i = get_or mo.rules i no_rule

  pub id_is : (i : ℕ) → i < rules → (A i).id ≡ id_at x ts i
  unfolding id_at
  id_is i h = (row i h).id

  pub pass_is : (i : ℕ) → i < rules → Pass mo.scenario.entities (pool_of mo) 0 (A i).actions
  pass_is i h = record {
    before = (row i h).before;
    after = (row i h).after;
    is = (row i h).checked;
    told =
        (pool_is f x ts mo tb i h).told;
  }

  module _ {now s : ℕ} {m : Machine} {e : Engine} (l : L now (suc s) m e) (i : ℕ) (h : i < rules) where
    begins_here : (later : Bool) → Begins m.sequences i later e.made
        (new_run f x i later m.runs_created m.sequences)
    begins_here later =
        begins i h later m.runs_created m.sequences e.made l.made
        (omega (arith, l.low.made_low)) (pass_is i h)

    module _ (r : ARun) (b : Begins m.sequences i false e.made r) where
      begin_eq : begin now (A i) false e ≡ adds (next_step now (R r) ∷ [])
          (log_rule now (Kind.start r.number) (id_at x ts r.automation) (add_run (R r) e))
      unfolding begin meant_run
      begin_eq =
          ap (λ (y : Run). adds (next_step now y ∷ []) (log_rule now (Kind.start y.number) (A i).id (add_run y e)))
          (sym b.is)
          ∙ ap
          (λ (t : Text). adds (next_step now (R r) ∷ []) (log_rule now (Kind.start r.number) t (add_run (R r) e)))
          (id_is i h ∙ ap (id_at x ts) (sym b.new.automation))

      rule_low : r.automation < rules
      rule_low = rw b.new.automation h

      begin_run_is : S now s (begin_run_m i r m) (begin now (A i) false e)
      unfolding begin_run_m adds through
      begin_run_is = rw begin_eq (
          follow f x ts mo tb (λ (k : Machine). now_m r k) (add (next_step now (R r)))
          (follow f x ts mo tb (log_rule_m 12 r.number r.automation)
          (log_rule now (Kind.start r.number) (id_at x ts r.automation))
          (add_run_is f x ts mo tb l i h r b.new)
          (λ k. log_rule_is f x ts mo tb k 12 r.number r.automation (Kind.start r.number) (starting r.number)
          rule_low)
          (λ n z p. s_log_rule n z 12 r.number r.automation _ p)
          (λ n o. over_rule n now (Kind.start r.number) (id_at x ts r.automation) _ o))
          (λ k. now_is f x ts mo tb k r rule_low)
          (λ n z p. s_next n z r _ _ p)
          (λ n o. (overflow_stays n).on_add _ _ o))

    module _ (r : ARun) (b : Begins m.sequences i true e.made r) where
      later_eq : begin now (A i) true e ≡ log_rule now (Kind.queued r.number) (id_at x ts r.automation)
          (add_run (R r) e)
      unfolding begin meant_run adds through
      later_eq =
          ap (λ (y : Run). log_rule now (Kind.queued y.number) (A i).id (add_run y e)) (sym b.is)
          ∙ ap (λ (t : Text). log_rule now (Kind.queued r.number) t (add_run (R r) e))
          (id_is i h ∙ ap (id_at x ts) (sym b.new.automation))

      begin_queued_is : S now s (begin_queued_m i r m) (begin now (A i) true e)
      unfolding begin_queued_m
      begin_queued_is = rw later_eq (
          follow f x ts mo tb (log_rule_m 13 r.number r.automation)
          (log_rule now (Kind.queued r.number) (id_at x ts r.automation))
          (add_run_is f x ts mo tb l i h r b.new)
          (λ k. log_rule_is f x ts mo tb k 13 r.number r.automation (Kind.queued r.number) (queueing r.number)
          (rw b.new.automation h))
          (λ n z p. s_log_rule n z 13 r.number r.automation _ p)
          (λ n o. over_rule n now (Kind.queued r.number) (id_at x ts r.automation) _ o))

    pub begin_now_is : S now s (begin_now_m f x i m) (begin now (A i) false e)
    unfolding begin_now_m
    begin_now_is = begin_run_is (new_run f x i false m.runs_created m.sequences) (begins_here false)

    pub begin_later_is : S now s (begin_later_m f x i m) (begin now (A i) true e)
    unfolding begin_later_m
    begin_later_is = begin_queued_is (new_run f x i true m.runs_created m.sequences) (begins_here true)

  cancelling : Says 5 0 Kind.cancel
  unfolding kind_of kind_number detail_number
  cancelling = record { is = refl; number = refl; detail = refl }

  running : Says 6 0 Kind.single_running
  unfolding kind_of kind_number detail_number
  running = record { is = refl; number = refl; detail = refl }

  reached : Says 7 0 Kind.max_reached
  unfolding kind_of kind_number detail_number
  reached = record { is = refl; number = refl; detail = refl }

  -- ---- what becomes of a trigger

  abbrev decision_of : Decision → modes.Decision
  decision_of AlreadyRunning = modes.already_running
  decision_of MaxReached = modes.max_reached
  decision_of Start = modes.start
  decision_of StopAndStart = modes.stop_and_start
  decision_of WaitInLine = modes.wait_in_line

  decide_is : (mode : Mode) (most n : ℕ) → decision_of (decide_m (mode_number mode) most n) ≡ decide mode most n
  unfolding decide_m decide mode_number
  decide_is single most zero = refl
  decide_is single most (suc n) = rw (ne_eqb (suc n) 0 (λ o. absurd (omega arith)))
  decide_is Mode.restart most zero = refl
  decide_is Mode.restart most (suc n) = rw (ne_eqb (suc n) 0 (λ o. absurd (omega arith)))
  decide_is queued most zero = by (leb most 0)
    where
      by : (b : Bool) → decision_of (if b then MaxReached else Start) ≡ (if b then modes.max_reached else modes.start)
      by true = refl
      by false = refl
  decide_is queued most (suc n) = rw (ne_eqb (suc n) 0 (λ o. absurd (omega arith))) (by (leb most (suc n)))
    where
      by : (b : Bool) →
          decision_of (if b then MaxReached else WaitInLine) ≡ (if b then modes.max_reached else modes.wait_in_line)
      by true = refl
      by false = refl
  decide_is parallel most n = by (leb most n)
    where
      by : (b : Bool) → decision_of (if b then MaxReached else Start) ≡ (if b then modes.max_reached else modes.start)
      by true = refl
      by false = refl

  module _ {now s : ℕ} {m : Machine} {e : Engine} (l : L now (suc s) m e) (i : ℕ) (h : i < rules) where
    told_rule : (k : ℕ) (K : Kind) → Says k 0 K → S now s (log_rule_m k 0 i m) (log_rule now K (A i).id e)
    told_rule k K o = rw (id_is i h) (log_rule_is f x ts mo tb (weaker f x ts mo tb (omega arith) l) k 0 i K o h)

    decided_is : (d : Decision) → S now s (decided_m f x i d m) (carry_out now (decision_of d) (A i) e)
    unfolding decided_m carry_out stop_start_m drop_m
    decided_is AlreadyRunning = told_rule 6 Kind.single_running running
    decided_is MaxReached = told_rule 7 Kind.max_reached reached
    decided_is Start = begin_now_is l i h
    decided_is StopAndStart =
        let l₁ = runs_are f x ts mo tb l _ _ (dropped f x ts mo tb m.sequences m.runs e.runs l.runs i h) in
        follow f x ts mo tb (begin_now_m f x i) (begin now (A i) false)
        (rw (id_is i h) (log_rule_is f x ts mo tb l₁ 5 0 i Kind.cancel cancelling h))
        (λ k. begin_now_is k i h)
        (λ n z p. s_begin_now n z f x i _ p)
        (λ n o. c_begin (Over n) (overflow_stays n) now (A i) false _ o)
    decided_is WaitInLine = begin_later_is l i h

    pub carry_is : S now s (carry_out_m f x i m) (carry_out now
        (decide (A i).mode (A i).max (tally (of_rule (A i).id) e.runs)) (A i) e)
    unfolding carry_out_m carry_with_m
    carry_is =
        let w = row i h in
        let c : tally (of_rule (A i).id) e.runs ≡ places.tally (run_of i) m.runs =
        ap (λ (t : Text). tally (of_rule t) e.runs) (id_is i h)
        ∙ count_is f x ts mo tb m.sequences m.runs e.runs l.runs i h in
        rw (w.mode, w.max, c, ← decide_is (A i).mode (A i).max (places.tally (run_of i) m.runs))
        (decided_is (decide_m (mode_number (A i).mode) (A i).max (places.tally (run_of i) m.runs)))
