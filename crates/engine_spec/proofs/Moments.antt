-- What stands in the queue for each run, and which run of an automation executes, through a trigger, an item of work and
-- the loop: at every moment of a simulation.
use Prim.Native.Nat.{ℕ, zero, suc, ◌+◌}
use mathlib.Core.Path.{◌≡◌, refl, sym, ap, ◌∙◌, subst}
use mathlib.Core.Bool.{Bool, true, false, ◌&&◌, ◌||◌, true≢false, false≢true}
use mathlib.Core.List.{List, [], ◌∷◌, ◌++◌, append-nil}
use mathlib.Core.Option.{Option, none, some}
use native.Mathlib.Omega.{arith}
use lib.Dec.{leb, ltb, eqb}
use lib.ListN.{length}
use Rattle.texts.specs.Lists.{◌▸◌, present_and, any, keep, find, tally, each, flat, through}
use Rattle.texts.specs.Texts.{Text, eq_t}
use Rattle.model_spec.specs.Model.{Moment, queued, Automation, Input, reload, Event}
use Rattle.engine_spec.specs.Cells.{Cell}
use Rattle.engine_spec.specs.Kleene.{Truth, Yes, No, Unknown}
use Rattle.engine_spec.specs.Truth.{evaluate_all, matches}
use Rattle.engine_spec.specs.Modes.{
  Decision,
  already_running,
  max_reached,
  start,
  stop_and_start,
  wait_in_line,
  decide,
}
use Rattle.engine_spec.specs.Reasons.{space_spent, steps_spent}
use Rattle.engine_spec.specs.Records.{Key, Waiting, Run, Work, Item, Kind, Areas, Engine}
use Rattle.engine_spec.specs.Changes.{append, with_runs, uncertain, with_queue}
use Rattle.engine_spec.specs.Engine.{
  moment,
  same_run,
  of_rule,
  of_other_rule,
  left,
  fresh_run,
  log,
  log_rule,
  expiry,
  carry_out,
  admit,
  offer,
  trigger,
  step,
  resume,
  process,
  sooner,
  pop,
  Next,
  stop,
  exhausted,
  take,
  next_of,
  Ended,
  loop,
  event_item,
  begun,
}
use Rattle.engine_spec.specs.Page.{
  same_key,
  steps,
  times_out,
  steps_in,
  timeouts_at,
  acting,
  Due,
  Meant,
  InLine,
  NoChange,
}
use Rattle.engine_spec.proofs.Lists.{
  Case,
  is_true,
  is_false,
  case,
  if_prop,
  eqb_eq,
  eqb_same,
  eq_t_eq,
  one,
  none_kept,
  kept_none,
  keep_in,
  Each,
  each_keep,
  each_weak,
  each_both,
  each_found,
  each_join,
  found_is,
}
use Rattle.engine_spec.proofs.Runs.{
  keys_same,
  key_is,
  order_keep,
  all_out,
}
use Rattle.engine_spec.proofs.Keeps.{Only}
use Rattle.engine_spec.proofs.Steps.{
  other_stays,
  keys_differ,
  Suits,
  decide_suits,
  line_none,
  line_alone,
  line_start,
  line_join,
}
use Rattle.engine_spec.proofs.Due.{
  Good,
  Sound,
  none_free,
  Foreign,
  S,
  s_adds,
  foreign_expiry,
  s_update,
  s_resume,
  late,
  s_time_out,
  s_stale,
  s_drop,
  s_wake,
  s_begin,
}

-- ---- a trigger

-- no run is called
abbrev pub nobody_called : Key → Bool
nobody_called k = false

module _ (a : Automation) (now : ℕ) (base : List Item) where
  abbrev pub T : Engine → Type 0
  T e = Sound a now nobody_called base none_free e.runs e.made e.queue

  s_carry : (d : Decision) (r : Automation) (e : Engine)
      → (eq_t r.id a.id ≡ true → Suits d a.mode (tally (of_rule a.id) e.runs))
      → T e → T (carry_out now d r e)
  unfolding carry_out log_rule log append with_runs
  s_carry already_running r e h s = s
  s_carry max_reached r e h s = s
  s_carry start r e h s =
      s_begin a now nobody_called base r false e s refl
      (λ t. line_start a.mode (tally (of_rule a.id) e.runs) (keep (of_rule a.id) e.runs)
      (fresh_run r false e.made) (unfold fresh_run in refl) (h t) (none_kept (of_rule a.id) e.runs) s.line)
  s_carry stop_and_start r e h s =
      s_begin a now nobody_called base r false _ stopped refl
      (λ t. subst (λ (l : List Run). InLine a.mode (l ++ fresh_run r false e.made ∷ [])) (sym (gone t))
      (line_alone a.mode (fresh_run r false e.made) (unfold fresh_run in refl)))
    where
      kept : List Run
      kept = keep (of_other_rule r.id) e.runs

      gone : eq_t r.id a.id ≡ true → keep (of_rule a.id) kept ≡ []
      gone t =
          none_kept (of_rule a.id) kept
          (subst (λ (z : Text). tally (of_rule a.id) (keep (of_other_rule z) e.runs) ≡ 0) (sym (eq_t_eq _ _ t))
          (all_out a.id e.runs))

      line_of : Case (eq_t r.id a.id) → InLine a.mode (keep (of_rule a.id) kept)
      line_of (is_true t) = subst (InLine a.mode) (sym (gone t)) (line_none a.mode)
      line_of (is_false t) =
          subst (InLine a.mode) (sym (keep_in (of_rule a.id) (of_other_rule r.id) (other_stays a.id r.id t)
          e.runs)) s.line

      stopped : Sound a now nobody_called base none_free kept e.made e.queue
      stopped = record {
        order = order_keep (of_other_rule r.id) e.runs s.order;
        good = each_keep _ (of_other_rule r.id) e.runs s.good;
        line = line_of (case (eq_t r.id a.id));
        meant = s.meant;
        kept = s.kept;
      }
  s_carry wait_in_line r e h s =
      s_begin a now nobody_called base r true e s refl
      (λ t. line_join a.mode (tally (of_rule a.id) e.runs) (keep (of_rule a.id) e.runs)
      (fresh_run r true e.made) (unfold fresh_run in refl) (h t) (kept_none (of_rule a.id) e.runs) s.line)

  s_admit : (v : Truth) (r : Automation) (e : Engine) → (r.id ≡ a.id → r ≡ a) → T e → T (admit now v r e)
  unfolding admit uncertain
  s_admit Yes r e u s = go r.notes
    where
      D : Automation → Decision
      D z = decide z.mode z.max (tally (of_rule z.id) e.runs)

      suits : eq_t r.id a.id ≡ true → Suits (D r) a.mode (tally (of_rule a.id) e.runs)
      suits t =
          subst (λ (z : Automation). Suits (D z) a.mode (tally (of_rule a.id) e.runs))
          (sym (u (eq_t_eq _ _ t))) (decide_suits a.mode a.max (tally (of_rule a.id) e.runs))

      go : (l : List Text) → T (elim l [ [] ↦ carry_out now (D r) r e | x ∷ y ↦ e ])
      go [] = s_carry (D r) r e suits s
      go (x ∷ y) = s
  s_admit No r e u s = s
  s_admit Unknown r e u s = s

  s_offers : (x from to : Text) (l : List Automation) (e : Engine) → Only a l → T e
      → T (through (offer now x from to) l e)
  unfolding through offer log append
  s_offers x from to [] e u s = s
  s_offers x from to (r ∷ l) e u s =
      s_offers x from to l _ u.1 (if_prop T (any (matches x from to) r.triggers)
      (λ _. s_admit (evaluate_all (moment now e) r.conditions e.cells) r _ u.0 s) (λ _. s))

-- ---- an item of work

-- an item taken out of a list: it and the others are the list's
abbrev Out : (Item → Bool) → List Item → Option (Item × List Item) → Type 0
Out p q none = Unit {0}
Out p q (some x) = tally p q ≡ one (p x.0) + tally p x.1

pop_out : (p : Item → Bool) (q : List Item) → Out p q (pop q)
unfolding pop tally
pop_out p [] = tt
pop_out p (i ∷ l) = go (pop l) (pop_out p l)
  where
    go : (o : Option (Item × List Item)) → Out p l o → Out p (i ∷ l) (sooner i l o)
    go none h = unfold sooner in refl
    go (some x) h = unfold sooner in
        (if_prop (Out p (i ∷ l)) (leb i.at x.0.at) (λ _. refl) (λ _. omega (arith, h)))

abbrev Those : (Item → Type 0) → List Item → Option (Item × List Item) → Type 0
Those P q none = Unit {0}
Those P q (some x) = P x.0 × Each P x.1

pop_those : (P : Item → Type 0) (q : List Item) → Each P q → Those P q (pop q)
unfolding pop
pop_those P [] k = tt
pop_those P (i ∷ l) k = go (pop l) (pop_those P l k.1)
  where
    go : (o : Option (Item × List Item)) → Those P l o → Those P (i ∷ l) (sooner i l o)
    go none h = unfold sooner in (k.0, k.1)
    go (some x) h = unfold sooner in
        (if_prop (Those P (i ∷ l)) (leb i.at x.0.at) (λ _. (k.0, k.1)) (λ _. (h.0, (k.0, h.1))))

module _ (a : Automation) (e : Engine) (sound : T a 0 [] e) (called : Key → Bool)
    (calls : Each (λ x. called x.key ≡ true → x.queued ≡ true) e.runs) (t : ℕ) (l : List Item) where
  abbrev pub Taken : Work → Type 0
  Taken w = pop e.queue ≡ some (record { at = t; work = w }, l)

  steps_out : (w : Work) → Taken w → (k : Key) → steps_in k e.queue ≡ one (steps k w) + steps_in k l
  unfolding steps_in
  steps_out w p k = subst (Out (λ i. steps k i.work) e.queue) p (pop_out (λ i. steps k i.work) e.queue)

  timeouts_out : (w : Work) → Taken w → (d : ℕ) (k : Key)
      → timeouts_at d k e.queue ≡ one (eqb t d && times_out k w) + timeouts_at d k l
  unfolding timeouts_at
  timeouts_out w p d k =
      subst (Out (λ i. eqb i.at d && times_out k i.work) e.queue) p
      (pop_out (λ i. eqb i.at d && times_out k i.work) e.queue)

  s_out : (w : Work) → Taken w → (free : Run → Bool) → ((x : Run) → free x ≡ false → steps x.key w ≡ false)
      → ((x : Run) (v : Waiting) → free x ≡ false → x.waiting ≡ some v
      → eqb t v.deadline && times_out x.key w ≡ false)
      → Sound a t called l free e.runs e.made l
  s_out w p free f g = record {
    order = sound.order;
    good =
        each_both (λ x. called x.key ≡ true → x.queued ≡ true) (λ x. Good 0 nobody_called false e.made e.queue x)
        (λ x. Good t called (free x) e.made l x)
        (λ x c h. record {
          fit = h.fit;
          due = λ z. record {
            step = omega (arith, steps_out w p x.key, ap one (f x z), (h.due refl).step);
            timeout = λ v q.
                omega (
                  arith,
                  timeouts_out w p v.deadline x.key,
                  ap one (g x v z q),
                  (h.due refl).timeout v q,
                );
          };
          soon = λ y q. absurd (true≢false (sym (c y) ∙ q));
        }) e.runs calls sound.good;
    line = sound.line;
    meant =
        (subst (Those (λ i. Meant e.made i.work) e.queue) p
        (pop_those (λ i. Meant e.made i.work) e.queue sound.meant)).1;
    kept = ([], sym (append-nil l));
  }

  -- work that is for no run
  s_aside : (w : Work) → Taken w → ((k : Key) → steps k w ≡ false) → ((k : Key) → times_out k w ≡ false)
      → Sound a t called l none_free e.runs e.made l
  s_aside w p f g =
      s_out w p none_free (λ x _. f x.key) (λ x v _ _. no_and (eqb t v.deadline) (g x.key))
    where
      no_and : (b : Bool) {c : Bool} → c ≡ false → b && c ≡ false
      no_and true h = h
      no_and false h = refl

  -- the run that the work is for, before it was taken out
  at_key : (k : Key) (r : Run) → find (same_run k) e.runs ≡ some r → Due e.queue r × (r.key ≡ k)
  at_key k r p = (
    (each_found (λ x. Good 0 nobody_called false e.made e.queue x) (same_run k) e.runs r sound.good p).due
        refl,
    key_is k r (found_is (same_run k) e.runs r p),
  )

  pub s_process : (rules : List Automation) (w : Work) → Taken w → NoChange w
      → S a t called l none_free (process t rules w (with_queue l e))
  unfolding process with_queue
  s_process rules (Work.external (Input.set x v)) p z =
      s_update a t called l none_free x v none none Kind.external _
      (s_aside _ p (λ k. unfold steps in refl) (λ k. unfold times_out in refl))
  s_process rules (Work.external Input.restart) p z =
      s_drop a t called l none_free _ (s_aside _ p (λ k. unfold steps in refl) (λ k. unfold times_out in refl))
  s_process rules (Work.external reload) p z =
      s_drop a t called l none_free _ (s_aside _ p (λ k. unfold steps in refl) (λ k. unfold times_out in refl))
  s_process rules (Work.changed x from to) p z = absurd z
  s_process rules (Work.resume k) p z =
      s_resume a t called l k _
      (s_out _ p (same_run k) (λ x b. unfold steps in (keys_differ k x b))
      (λ x v b q. unfold times_out in (no_and (eqb t v.deadline))))
      (λ r q. acts r (at_key k r q) (case (acting r)))
    where
      no_and : (b : Bool) → b && false ≡ false
      no_and true = refl
      no_and false = refl

      hit : steps k (Work.resume k) ≡ true
      hit = unfold steps in (keys_same k)

      acts : (r : Run) → Due e.queue r × (r.key ≡ k) → Case (acting r) → (acting r ≡ true) × (steps_in k l ≡ 0)
      acts r d (is_true b) = (
        b,
        omega (
          arith,
          steps_out (Work.resume k) p k,
          ap one hit,
          subst (λ (j : Key). steps_in j e.queue ≡ one (acting r)) d.1 d.0.step,
          ap one b,
        ),
      )
      acts r d (is_false b) =
          absurd (omega (
            arith,
            steps_out (Work.resume k) p k,
            ap one hit,
            subst (λ (j : Key). steps_in j e.queue ≡ one (acting r)) d.1 d.0.step,
            ap one b,
          ))
  s_process rules (Work.timeout k) p z =
      s_time_out a t called l k _
      (s_out _ p (late a t called l k) (λ x b. unfold steps in refl)
      (λ x v b q. unfold times_out in (missed x v b q (case (same_run k x)))))
      (λ r q b. idle r (at_key k r q) b)
    where
      missed : (x : Run) (v : Waiting) → late a t called l k x ≡ false → x.waiting ≡ some v → Case (same_run k x)
          → eqb t v.deadline && same_key k x.key ≡ false
      missed x v b q (is_false c) = both (eqb t v.deadline) (keys_differ k x c)
        where
          both : (p : Bool) {r : Bool} → r ≡ false → p && r ≡ false
          both true h = h
          both false h = refl
      missed x v b q (is_true c) = rw (other (case (eqb t v.deadline)))
        where
          early : eqb v.deadline t ≡ false
          early = unfold present_and in (rw (c, q) at b)

          other : Case (eqb t v.deadline) → eqb t v.deadline ≡ false
          other (is_false h) = h
          other (is_true h) =
              absurd (true≢false (sym (subst (λ (n : ℕ). eqb v.deadline n ≡ true) (sym (eqb_eq t v.deadline h))
              (eqb_same v.deadline)) ∙ early))

      miss : steps k (Work.timeout k) ≡ false
      miss = unfold steps in refl

      idle : (r : Run) → Due e.queue r × (r.key ≡ k) → acting r ≡ false → steps_in k l ≡ 0
      idle r d b =
          omega (
            arith,
            steps_out (Work.timeout k) p k,
            ap one miss,
            subst (λ (j : Key). steps_in j e.queue ≡ one (acting r)) d.1 d.0.step,
            ap one b,
          )
  s_process rules (Work.stale x n) p z =
      s_stale a t called l none_free x n _
      (s_aside _ p (λ k. unfold steps in refl) (λ k. unfold times_out in refl))

-- ---- the whole simulation

-- between two items no run is called, and neither the second nor how the queue grew counts
calm : (a : Automation) (t : ℕ) (called : Key → Bool) (base : List Item) (runs : List Run) (made : List Text)
    (queue : List Item) → Sound a t called base none_free runs made queue
    → Sound a 0 nobody_called [] none_free runs made queue
calm a t called base runs made queue s = record {
  order = s.order;
  good = each_weak _ _ (λ x g. record { fit = g.fit; due = g.due; soon = λ c q. absurd (false≢true c) }) runs s.good;
  line = s.line;
  meant = s.meant;
  kept = (queue, refl);
}

module _ (a : Automation) (rules : List Automation) (only : Only a rules) where
  pub taken : (e : Engine) → T a 0 [] e → (t : ℕ) (w : Work) (l : List Item)
      → pop e.queue ≡ some (record { at = t; work = w }, l) → T a t l (process t rules w (with_queue l e))
  taken e s t w l p = by w p
    where
      calls : Each (λ x. nobody_called x.key ≡ true → x.queued ≡ true) e.runs
      calls = each_weak _ _ (λ x _ c. absurd (false≢true c)) e.runs s.good

      other : (w : Work) → pop e.queue ≡ some (record { at = t; work = w }, l) → NoChange w
          → T a t l (process t rules w (with_queue l e))
      other w p z = s_process a e s nobody_called calls t l rules w p z

      by : (w : Work) → pop e.queue ≡ some (record { at = t; work = w }, l) → T a t l (process t rules w (with_queue l e))
      by (Work.external i) p = other (Work.external i) p tt
      by (Work.changed x from to) p = unfold process trigger with_queue in
          (s_offers a t l x from to rules _ only (s_wake a t nobody_called l x from to (with_queue l e)
          (s_aside a e s nobody_called calls t l (Work.changed x from to) p (λ k. unfold steps in refl)
          (λ k. unfold times_out in refl))))
      by (Work.resume k) p = other (Work.resume k) p tt
      by (Work.timeout k) p = other (Work.timeout k) p tt
      by (Work.stale x n) p = other (Work.stale x n) p tt

  -- what the loop takes out
  abbrev Picked : Engine → Next → Type 0
  Picked e stop = Unit {0}
  Picked e exhausted = Unit {0}
  Picked e (take i l) = pop e.queue ≡ some (i, l)

  picked : (h : ℕ) (e : Engine) → Picked e (next_of h e (pop e.queue))
  picked h e = go (pop e.queue) refl
    where
      go : (o : Option (Item × List Item)) → pop e.queue ≡ o → Picked e (next_of h e o)
      go none p = unfold next_of in tt
      go (some x) p = unfold next_of in
          (if_prop (Picked e) (leb 10000 (length e.trace) || ltb 20000 (length e.queue)) (λ _. tt)
          (λ _. if_prop (Picked e) (ltb h x.0.at) (λ _. tt) (λ _. p)))

  pub loop_sound : (h left n : ℕ) (e : Engine) → T a 0 [] e → T a 0 [] (loop rules h left n e).engine
  unfolding loop
  loop_sound h zero n e s = go (next_of h e (pop e.queue))
    where
      go : (x : Next) → T a 0 [] (◌▸◌ {A = Ended} (elim x [
        | stop ↦ record { engine = e; steps = n; incomplete = [] }
        | exhausted ↦ record { engine = e; steps = n; incomplete = space_spent ∷ [] }
        | take i l ↦ record { engine = e; steps = n; incomplete = steps_spent ∷ [] }
      ]) (λ (d : Ended). d.engine))
      go stop = s
      go exhausted = s
      go (take i l) = s
  loop_sound h (suc m) n e s = go (next_of h e (pop e.queue)) (picked h e) (loop_sound h m (n + 1))
    where
      go : (x : Next) → Picked e x → ((u : Engine) → T a 0 [] u → T a 0 [] (loop rules h m (n + 1) u).engine)
          → T a 0 [] (◌▸◌ {A = Ended} (elim x [
            | stop ↦ record { engine = e; steps = n; incomplete = [] }
            | exhausted ↦ record { engine = e; steps = n; incomplete = space_spent ∷ [] }
            | take i l ↦ loop rules h m (n + 1) (e ▸ with_queue l ▸ process i.at rules i.work)
          ]) (λ (d : Ended). d.engine))
      go stop p f = s
      go exhausted p f = s
      go (take i l) p f = f _ (calm a i.at nobody_called l _ _ _ (taken e s i.at i.work l p))

  expiries : (l : List Cell) → Each Foreign (flat (expiry 0) l)
  unfolding flat
  expiries [] = tt
  expiries (c ∷ l) =
      each_join Foreign (expiry 0 c) (flat (expiry 0) l) (foreign_expiry a 0 nobody_called [] c) (expiries l)

  inputs : (l : List Event) → Each Foreign (each event_item l)
  unfolding each event_item steps
  inputs [] = tt
  inputs (v ∷ l) = ((λ k. refl, λ m. tt), inputs l)

  pub begun_sound : (areas : Areas) (origin : Moment) (cells : List Cell) (notes : List Text) (events : List Event)
      → T a 0 [] (begun areas origin cells notes events)
  unfolding begun log append keep
  begun_sound areas origin cells notes events =
      s_adds a 0 nobody_called [] none_free (flat (expiry 0) cells) _ (expiries cells)
      (s_adds a 0 nobody_called [] none_free (each event_item events) _ (inputs events)
      (record { order = tt; good = tt; line = line_none a.mode; meant = tt; kept = ([], refl) }))
