-- A run's next action: each of the seven effects does what the definition says.
-- `Here k r m`: the run at k is r.
use Rattle.std.specs.Prelude.{if◌then◌else◌, Some, Option as Maybe}
use mathlib.Core.Path.{◌≡◌, refl, sym, ap, ◌∙◌, subst}
use mathlib.Core.List.{List, [], ◌∷◌}
use mathlib.Core.Bool.{Bool, true, false}
use mathlib.Core.Option.{Option, none, some}
use Prim.Native.Nat.{ℕ, suc, ◌+◌, ◌≤◌, ◌<◌}
use native.Mathlib.Omega.{arith}
use lib.ListN.{length, get_or, length-set}
use lib.Seq.{get_or-set_same}
use lib.Dec.{ltb, eqb}
use borrow.Author.Tests.{le-ltb, eqb-true}
use Rattle.layout.specs.Sizes.{last_simulation_reason}
use Rattle.texts.specs.Lists.{absent, find}
use Rattle.texts.specs.Texts.{Text, text, eq_t, mem_t}
use Rattle.model_spec.specs.Model.{Source, Entity, Trigger, Predicate, Effect, choose, Actions, Branches, no_branch, branch, named, Model}
use Rattle.model_spec.specs.File.{got, u16, predicate, trigger, branches, actions}
use Rattle.model_spec.specs.Validate.{undecided}
use Rattle.queue.specs.declared.Work.TheVariants as queue
use Rattle.records.specs.declared.Source.{Source as RecordSource}
use Rattle.records.specs.declared.Write.{Write}
use Rattle.runs.specs.declared.Run.{Run as ARun}
use Rattle.runs.specs.declared.Source.{Source as ASource}
use Rattle.reasons.specs.Kinds as kinds
use Rattle.reasons.specs.declared.Reason.{Reason}
use Rattle.reasons.specs.Reasons.{render}
use Rattle.engine_spec.specs.Truth.{moment_after, evaluate}
use Rattle.engine_spec.specs.Cells.{value_of}
use Rattle.engine_spec.specs.Records.{Run, Work, Kind, Engine}
use Rattle.engine_spec.specs.Words.{truth_number, kind_number, detail_number}
use Rattle.engine_spec.specs.Changes.{add, uncertain}
use Rattle.engine_spec.specs.Reasons.{
  toggle_of_unknown,
  unknown_action_condition,
  unknown_choose_condition,
  unsupported_wait,
}
use Rattle.engine_spec.specs.Engine.{
  moment,
  store,
  left,
  waits,
  toggled,
  ◌then◌,
  next_step,
  log_action,
  go_on_after,
  write,
  flip,
  tested,
  chosen,
  begin_wait,
  perform,
  finish,
  select,
}
use Rattle.engine_spec.proofs.Closed.{c_log, c_finish, c_tested}
use Rattle.model_walk.proofs.Found.{Case, is_true, is_false, case}
use Rattle.engine_fields.specs.Fields.{two, four, name, entity_of, about_rule, alone, note_reason}
use Rattle.engine_evaluate.specs.Evaluate.{number_m, undecided_m, evaluate_m, select_m}
use Rattle.engine_evaluate.specs.Actions.{put_places}
use Rattle.engine_evaluate.specs.declared.Truth.{Truth}
use Rattle.engine_evaluate.specs.declared.Truth.TheVariants.{Yes, No, Unknown}
use Rattle.engine_evaluate.specs.declared.Effect.{Effect as AEffect}
use Rattle.engine_state.specs.declared.Told.{Told}
use Rattle.engine_state.specs.Machine.{Machine, later}
use Rattle.engine_state.specs.Changes.{log_m, uncertain_m, log_action_m, next_step_m}
use Rattle.engine_modes.specs.Modes.{now_m}
use Rattle.engine_trigger.specs.Runs.{no_run, put_run_m, phase_m, finish_m}
use Rattle.engine_actions.specs.Actions as acts
use Rattle.engine_update.specs.Update.{setting}
use Rattle.engine_actions.specs.Actions.{
  written_m,
  set_m,
  toggled_m,
  doubt_m,
  flip_from_m,
  flip_at_m,
  flip_m,
  delay_m,
  unclear_m,
  tested_m,
  condition_as_m,
  condition_m,
  take_list_m,
  chosen_m,
  choose_m,
  waiting_m,
  begin_wait_m,
  give_up_m,
}
use Rattle.engine_dispatch.specs.Resume.{perform_m}
use Rattle.engine_refinement.specs.Meaning.{
  truth_of,
  verdict_of,
  found_trigger,
  id_at,
  key_of,
  kind_of,
  work_of,
  item_of,
  meant_run,
  wait_of,
  source_of,
  cells_of,
  pool_of,
  Column,
  Tabled,
}
use Rattle.engine_refinement.specs.Events.{Declared}
use Rattle.engine_refinement.proofs.Numbers.{later_is, most_is}
use Rattle.engine_refinement.proofs.Evaluate.{
  Valued,
  undecided_is,
  fixed_is,
  evaluate_is,
  matches_is,
  Lists,
  Taken,
  takes,
  unclear,
  select_is,
}
use Rattle.engine_refinement.proofs.Checked.{
  Pass,
  PassE,
  PassB,
  Known,
  pass_choose,
  pass_delay,
  pass_wait,
  pass_set,
  pass_toggle,
  pass_unknown,
}
use Rattle.engine_refinement.proofs.Effects.{
  Acts,
  sets,
  toggles,
  delays,
  conditions,
  chooses,
  waits as waits-at,
  unknowns,
  deeper,
}
use Rattle.engine_refinement.proofs.Stack.{Pushed, pushed}
use Rattle.engine_refinement.proofs.Full.{s_next, s_log_action, s_finish, s_tested}
use Rattle.engine_refinement.proofs.Overflow.{overflow_stays}
use Rattle.engine_refinement.proofs.Relation.{GoodRun, Live, Sim, live, follow, weaker, add_is, uncertain_is}
use Rattle.engine_refinement.proofs.Words.{text_place, Tells}
use Rattle.engine_refinement.proofs.Pool.{
  pool_is,
  wait_in,
  note_is,
  wait_reason,
  toggle_reason,
  choose_reason,
  action_reason,
}
use Rattle.engine_refinement.proofs.Update.{Over, log_action_is, next_is, now_is, entity_found, value_is, update_is}
use Rattle.engine_refinement.proofs.Runs.{Keyed, store_is, finish_is}

-- ---- what stays

log_runs : (t : Told) (u : Maybe ℕ) (w : Maybe RecordSource) (c : Maybe Write) (m : Machine) → (log_m t u w c m).runs ≡ m.runs
unfolding log_m
log_runs t u w c m = by (eqb m.«overflow» 0) (ltb (length m.records) m.record_size) _ _ refl refl
  where
    by : (a b : Bool) (p q : Machine) → p.runs ≡ m.runs → q.runs ≡ m.runs →
        (if a then (if b then p else q) else m).runs ≡ m.runs
    by true true p q g h = g
    by true false p q g h = h
    by false b p q g h = refl

pub action_runs : (k d : ℕ) (s : ASource) (r : ARun) (m : Machine) → (log_action_m k d s r m).runs ≡ m.runs
unfolding log_action_m
action_runs k d s r m = log_runs _ _ _ _ m

pub uncertain_runs : (f : List ℕ) (r : Reason) (m : Machine) → (uncertain_m f r m).runs ≡ m.runs
unfolding uncertain_m
uncertain_runs f r m = by (ltb last_simulation_reason (length m.reasons)) _ refl
  where
    by : (b : Bool) (p : Machine) → p.runs ≡ m.runs → (if b then m else p).runs ≡ m.runs
    by true p h = refl
    by false p h = h

pub over_action : (n now : ℕ) (K : Kind) (s : Source) (r : Run) (e : Engine) → Over n e → Over n (log_action now K s r e)
unfolding log_action
over_action n now K s r e o = c_log (Over n) (overflow_stays n) now K (some r.key.rule) (some s) none e o

pub record Here (k : ℕ) (r : ARun) (m : Machine) : Type 0 where
  pub inside : k < length m.runs
  pub is : get_or m.runs k no_run ≡ r

pub still_here : {k : ℕ} {r : ARun} {m n : Machine} → Here k r m → n.runs ≡ m.runs → Here k r n
still_here {k} {r} h e = record { inside = rw e h.inside; is = ap (λ (l : List ARun). get_or l k no_run) e ∙ h.is }

pub put_here : (k : ℕ) (r : ARun) (m : Machine) → k < length m.runs → Here k r (put_run_m k r m)
put_here k r m h = record { inside = rw (length-set m.runs k r) h; is = get_or-set_same m.runs k r no_run h }

module _ (f x : List ℕ) (ts : List Text) (mo : Model) (tb : Tabled f x ts mo) where
  abbrev T : ℕ → Text
  T p = get_or ts p []

  abbrev es : List Entity
  es = mo.scenario.entities

  abbrev pl : List Text
  pl = pool_of mo

  abbrev rules : ℕ
  rules = length mo.rules

  abbrev L : ℕ → ℕ → Machine → Engine → Type 0
  L = Live f x ts mo tb

  abbrev S : ℕ → ℕ → Machine → Engine → Type 0
  S = Sim f x ts mo tb

  abbrev R : ARun → Run
  R = meant_run x ts f

  pub keyed : {k : ℕ} {r : ARun} {m : Machine} → Here k r m → Keyed f x ts mo tb k r m
  keyed h = record {
    inside = h.inside;
    automation = ap (λ (y : ARun). y.automation) h.is;
    sequence =
        ap (λ (y : ARun). y.sequence) h.is;
    number = ap (λ (y : ARun). y.number) h.is;
  }

  -- ---- declared entities

  declared_from : (id : ℕ) → id < length ts → (l : List Entity) (o : ℕ) →
      ((d : Entity) (k : ℕ) → k < length l → Column x ts (o + k) (get_or l k d)) → o + length l ≤ length es →
      (d : Entity) → find (named (T id)) l ≡ some d → Declared f x ts mo id
  unfolding find named
  declared_from id h [] o g b d e = let z : ◌≡◌ {A = ℕ} 0 1 = cc in absurd (omega arith)
  declared_from id h (y ∷ l) o g b d e =
      cases (case (eq_t y.name (T id)))
      (λ p. declared_from id h l (o + 1) (λ d k i. let z : o + suc k ≡ o + 1 + k = omega arith in
      subst (λ (n : ℕ). Column x ts n (get_or l k d)) z (g d (suc k) (omega arith))) (omega arith) d p)
    where
      first : Column x ts o y
      first = let z : o + 0 ≡ o = omega arith in subst (λ (n : ℕ). Column x ts n y) z (g y 0 (omega arith))

      cases : Case (eq_t y.name (T id)) → (find (named (T id)) l ≡ some d → Declared f x ts mo id) →
          Declared f x ts mo id
      cases (is_true c) ih = (
        o,
        (
          omega arith,
          eqb-true _ _ (sym (tb.same _ _ first.name_in h)
              ∙ ap (λ (t : Text). eq_t t (T id)) (sym first.name_is) ∙ c),
        ),
      )
      cases (is_false c) ih = ih (rw c at e)

  pub declared : (id : ℕ) → id < length ts → Known es pl (T id) → Declared f x ts mo id
  declared id h k =
      declared_from id h es 0
      (λ d i o. let z : i ≡ 0 + i = omega arith in subst (λ (n : ℕ). Column x ts n (get_or es i d)) z (tb.columns d i o))
      (omega arith) k.0 k.1

  -- ---- kinds of records

  abbrev Says : ℕ → ℕ → Kind → Type 0
  Says = Tells f x ts mo tb

  acting : Says 2 0 Kind.action
  unfolding kind_of kind_number detail_number
  acting = record { is = refl; number = refl; detail = refl }

  choosing : Says 8 0 Kind.choose
  unfolding kind_of kind_number detail_number
  choosing = record { is = refl; number = refl; detail = refl }

  testing : (t : Truth) → Says 11 (number_m t) (Kind.condition (truth_of t))
  unfolding kind_of verdict_of kind_number detail_number truth_number
  testing Yes = record { is = refl; number = refl; detail = refl }
  testing No = record { is = refl; number = refl; detail = refl }
  testing Unknown = record { is = refl; number = refl; detail = refl }

  delaying : (n : ℕ) → Says 15 n (Kind.delay n)
  unfolding kind_of kind_number detail_number
  delaying n = record { is = refl; number = refl; detail = refl }

  waiting : (n : ℕ) → Says 16 n (Kind.wait n)
  unfolding kind_of kind_number detail_number
  waiting n = record { is = refl; number = refl; detail = refl }

  unknowing : (n : ℕ) → n < length ts → Says 18 n (Kind.unknown (T n))
  unfolding kind_of kind_number detail_number
  unknowing n h = record { is = refl; number = refl; detail = text_place f x ts mo tb n h }

  pushed_run : (r : ARun) (at : ℕ) (a : Actions) (p : Pushed f x ts mo tb r at a) →
      R (put_places p.depth p.places r) ≡ left (a then (R r).actions) (R r)
  unfolding meant_run
  pushed_run r at a p = ap (λ (y : Actions). left y (R r)) p.all

  -- ---- the effects, of the run r at k
  module _ (now k : ℕ) (r : ARun) (s : ASource) where
    abbrev src : Source
    src = source_of s

    -- the run goes on
    going_on : {room : ℕ} {m : Machine} {e : Engine} → r.automation < rules → S now room m e →
        S now room (now_m r m) (add (next_step now (R r)) e)
    going_on h y =
        follow f x ts mo tb (λ (n : Machine). now_m r n) (add (next_step now (R r))) y (λ l. now_is f x ts mo tb l r h)
        (λ n z p. s_next n z r _ _ p) (λ n o. (overflow_stays n).on_add _ _ o)

    told_action : {room : ℕ} {m : Machine} {e : Engine} → L now room m e → (i d : ℕ) (K : Kind) → Says i d K →
        r.automation < rules → S now room (log_action_m i d s r m) (log_action now K src (R r) e)
    told_action l i d K h g = log_action_is f x ts mo tb l i d s r K h g

    doubt_is : {room : ℕ} {m : Machine} {e : Engine} → L now room m e → r.automation < rules → (i : ℕ) (t : Text) →
        render f (about_rule f x r.automation i) ≡ t → mem_t t pl ≡ true → L now room (doubt_m f x r i m) (uncertain t e)
    unfolding doubt_m
    doubt_is l h i t q p =
        rw (most_is r.automation 31 (omega (arith, tb.few_automations)))
        (uncertain_is f x ts mo tb l (about_rule f x r.automation i) t q p)

    doubt_runs : (i : ℕ) (m : Machine) → (doubt_m f x r i m).runs ≡ m.runs
    unfolding doubt_m
    doubt_runs i m = uncertain_runs f _ m

    -- the run ends for a reason
    unclear_is : {room : ℕ} {m : Machine} {e : Engine} → L now room m e → Here k r m → r.automation < rules →
        (i : ℕ) (t : Text) → render f (about_rule f x r.automation i) ≡ t → mem_t t pl ≡ true →
        S now room (unclear_m f x k r i m) (finish now (R r) (uncertain t e))
    unfolding unclear_m
    unclear_is {room} {m} l w h i t q p =
        finish_is f x ts mo tb (doubt_is l h i t q p) k r (keyed (still_here w (doubt_runs i m)))

    writing : {room : ℕ} {m : Machine} {e : Engine} → L now (suc room) m e → r.automation < rules → (j v : ℕ) →
        j < length es →
        v < length ts → S now room (written_m x r s (name x j) v m) (write now (T (name x j)) (T v) src (R r) e)
    unfolding written_m write meant_run key_of
    writing l low j v h i =
        update_is f x ts mo tb l
        (setting (name x j) v 2 (Some r.automation) (Some (record { line = s.line; column = s.column }))) j h refl i Kind.action acting low

    -- the run's automation is one of the model's
    module _ (low : r.automation < rules) where
      set_is : {room : ℕ} {m : Machine} {e : Engine} → L now (suc room) m e → (a v : ℕ) → Declared f x ts mo a →
          v < length ts →
          S now room (set_m x r s a v m) (add (next_step now (R r)) (write now (T a) (T v) src (R r) e))
      unfolding set_m
      set_is {room} {m} {e} l a v d h =
          subst
          (λ (n : ℕ). S now room (now_m r (written_m x r s n v m))
          (add (next_step now (R r)) (write now (T n) (T v) src (R r) e)))
          d.1.1 (going_on low (writing l low d.0 v d.1.0 h))

      -- on and off
      turned_in : (v : ℕ) → toggled_m x v < length ts
      unfolding toggled_m
      turned_in v = by (eqb v (get_or x 4 0))
        where
          by : (b : Bool) → (if b then get_or x 5 0 else get_or x 4 0) < length ts
          by true = tb.off.is_in
          by false = tb.on.is_in

      turned : (v : ℕ) → v < length ts → T (toggled_m x v) ≡ toggled (T v)
      unfolding toggled_m toggled
      turned v h = by (case (eqb v (get_or x 4 0)))
        where
          same : eq_t (T v) (text "on") ≡ eqb v (get_or x 4 0)
          same = fixed_is f x ts mo tb v (get_or x 4 0) (text "on") h tb.on

          by : Case (eqb v (get_or x 4 0)) →
              T (if eqb v (get_or x 4 0) then get_or x 5 0 else get_or x 4 0)
              ≡ (if eq_t (T v) (text "on") then text "off" else text "on")
          by (is_true b) = rw (same ∙ b, b) tb.off.is_text
          by (is_false b) = rw (same ∙ b, b) tb.on.is_text

      flip_is : {room : ℕ} {m : Machine} {e : Engine} → L now (suc room) m e → (j : ℕ) → j < length es →
          S now room (flip_m f x r s (name x j) m) (add (next_step now (R r)) (flip now (T (name x j)) src (R r) e))
      unfolding flip_m flip_at_m flip_from_m flip set_m meant_run key_of
      flip_is {room} {m} {e} l j h = by (case (undecided_m x old))
        where
          old : ℕ
          old = get_or m.values j 0

          z : entity_of x (name x j) ≡ j
          z = (entity_found f x ts mo tb m.values m.versions j h).number

          v : value_of (T (name x j)) e.cells ≡ T old
          v = value_is f x ts mo tb m.values m.versions e.cells l.cells j h

          u : undecided_m x old ≡ undecided (T old)
          u = undecided_is f x ts mo tb old (l.cells.valued.in_texts j h)

          by : Case (undecided_m x old) →
              S now room (flip_m f x r s (name x j) m) (add (next_step now (R r)) (flip now (T (name x j)) src (R r) e))
          by (is_true b) =
              rw (z, le-ltb 31 j (omega (arith, tb.few_entities)), v, b, sym u ∙ b)
              (going_on low
              (live (doubt_is (weaker f x ts mo tb (omega arith) l) low kinds.toggle
              (toggle_of_unknown (id_at x ts r.automation)) (toggle_reason f x ts mo tb r.automation low)
              (pool_is f x ts mo tb r.automation low).toggle)))
          by (is_false b) =
              rw (
                z,
                le-ltb 31 j (omega (arith, tb.few_entities)),
                v,
                b,
                sym u ∙ b,
                ← turned old (l.cells.valued.in_texts j h),
              )
              (going_on low (writing l low j (toggled_m x old) h (turned_in old)))

      delay_is : {room : ℕ} {m : Machine} {e : Engine} → L now room m e → (d : ℕ) → d ≤ 86400 →
          S now room (delay_m r s d m) (go_on_after now d (R r) (log_action now (Kind.delay d) src (R r) e))
      unfolding delay_m go_on_after meant_run
      delay_is {room} {m} {e} l d h =
          follow f x ts mo tb (λ (n : Machine). next_step_m r (later n.now d) n)
          (add (record { at = now + d; work = Work.resume (key_of x ts r.automation r.sequence) }))
          (told_action l 15 d (Kind.delay d) (delaying d) low)
          (λ y. subst (λ (t : ℕ). S now room (next_step_m r t (log_action_m 15 d s r m))
          (add (record { at = now + d; work = Work.resume (key_of x ts r.automation r.sequence) })
          (log_action now (Kind.delay d) src (R r) e)))
          (sym (ap (λ (t : ℕ). later t d) y.time ∙ later_is now d (omega (arith, l.soon))))
          (next_is f x ts mo tb y r (now + d) low))
          (λ n z p. s_next n z r _ _ p)
          (λ n o. (overflow_stays n).on_add _ _ o)

      tested_is : {room : ℕ} {m : Machine} {e : Engine} → L now room m e → Here k r m → (t : Truth) →
          S now room (tested_m f x k r t m) (tested now (truth_of t) (R r) e)
      unfolding tested_m tested meant_run key_of
      tested_is l w Yes = going_on low (live l)
      tested_is l w No = finish_is f x ts mo tb l k r (keyed w)
      tested_is l w Unknown =
          unclear_is l w low kinds.action_condition (unknown_action_condition (id_at x ts r.automation))
          (action_reason f x ts mo tb r.automation low) (pool_is f x ts mo tb r.automation low).action

      condition_is : {room : ℕ} {m : Machine} {e : Engine} → L now room m e → Here k r m → (at : ℕ) (p : Predicate) (q : ℕ) →
          predicate ts f at ≡ got p q →
          S now room (condition_m f x k r s at m)
          (tested now (evaluate (moment now e) p e.cells) (R r)
          (log_action now (Kind.condition (evaluate (moment now e) p e.cells)) src (R r) e))
      unfolding condition_m condition_as_m
      condition_is {room} {m} {e} l w at p q h =
          let v : truth_of (evaluate_m f x m.values m.now at) ≡ evaluate (moment now e) p e.cells =
          (evaluate_is f x ts mo tb m.values m.versions l.cells.valued m.now at p q h).is
          ∙ (λ j. evaluate (moment_after (sym l.start j) (l.time j)) p (sym l.cells.is j)) in
          let t = evaluate_m f x m.values m.now at in
          rw (← v)
          (follow f x ts mo tb (tested_m f x k r t) (tested now (truth_of t) (R r))
          (told_action l 11 (number_m t) (Kind.condition (truth_of t)) (testing t) low)
          (λ y. tested_is y (still_here w (action_runs 11 (number_m t) s r m)) t)
          (λ n z o. s_tested n z f x k r t _ o)
          (λ n o. c_tested (Over n) (overflow_stays n) now (truth_of t) (R r) _ o))

      -- a list on top of the others
      take_is : {room : ℕ} {m : Machine} {e : Engine} → L now room m e → Here k r m → GoodRun f x ts mo tb m.sequences r →
          (at : ℕ) (a : Actions) (q d : ℕ) → actions ts 17 f at ≡ got a q → Pass es pl d a → r.depth ≤ d →
          S now room (take_list_m f k r s at m) (chosen now (some a) src (R r) e)
      unfolding take_list_m chosen
      take_is {room} {m} {e} l w g at a q d h t o =
          let p = pushed f x ts mo tb r at a q d g.places (deeper ts f 17 at a q h) t o in
          rw p.is
          (going_on low
          (told_action (subst (λ (y : Run). L now room (put_run_m k (put_places p.depth p.places r) m) (store y e))
          (same p)
          (store_is f x ts mo tb l k w.inside (put_places p.depth p.places r)
          (record { rule = g.rule; old = g.old; places = p.good; phase = g.phase })
          (ap (λ (y : ARun). y.automation) w.is) (ap (λ (y : ARun). y.sequence) w.is)))
          8 0 Kind.choose choosing low))
        where
          same : (p : Pushed f x ts mo tb r at a) →
              R (put_places p.depth p.places r) ≡ left (a then (R r).actions) (R r)
          same p = pushed_run r at a p

      passed : (d : ℕ) (vs ns : List ℕ) (ok : Valued f x ts mo tb vs) (t : ℕ) (bs : Branches) → PassB es pl d bs →
          Lists f x ts mo tb vs ns ok t (Pass es pl d) bs
      passed d vs ns ok t no_branch h = tt
      passed d vs ns ok t (branch ps a bs) h = (h.0, passed d vs ns ok t bs h.1)

      none_is : {room : ℕ} {m : Machine} {e : Engine} → L now room m e → Here k r m →
          S now room (unclear_m f x k r kinds.choose_condition m) (chosen now none src (R r) e)
      unfolding chosen meant_run key_of
      none_is l w =
          unclear_is l w low kinds.choose_condition (unknown_choose_condition (id_at x ts r.automation))
          (choose_reason f x ts mo tb r.automation low) (pool_is f x ts mo tb r.automation low).choose

      choose_is : {room : ℕ} {m : Machine} {e : Engine} → L now room m e → Here k r m →
          GoodRun f x ts mo tb m.sequences r →
          (at n p : ℕ) (bs : Branches) (q : ℕ) (d : Actions) (o deep : ℕ) → u16 f at ≡ got n p →
          branches ts (actions ts 17) n f p ≡ got bs q → actions ts 17 f q ≡ got d o → PassE es pl deep (choose bs d) →
          r.depth ≤ deep + 1 → S now room (choose_m f x k r s at m)
          (chosen now (select (moment now e) bs d e.cells) src (R r) e)
      unfolding choose_m chosen_m
      choose_is {room} {m} {e} l w g at n p bs q d o deep a b c t h =
          let ps = pass_choose es pl deep bs d t in
          subst
          (λ (o : Option Actions). S now room (chosen_m f x k r s (select_m f x m.values m.now at) m)
          (chosen now o src (R r) e))
          (λ j. select (moment_after (sym l.start j) (l.time j)) bs d (sym l.cells.is j))
          (by (select_is f x ts mo tb m.values m.versions l.cells.valued m.now (Pass es pl (deep + 1))
          at n p bs q d o a b c (passed (deep + 1) m.values m.versions l.cells.valued m.now bs ps.0)
          ps.1))
        where
          by : Taken f x ts mo tb m.values m.versions l.cells.valued m.now (Pass es pl (deep + 1))
              (select_m f x m.values m.now at) (select (moment_after mo.start m.now) bs d
              (cells_of x ts m.values m.versions)) →
              S now room (chosen_m f x k r s (select_m f x m.values m.now at) m)
              (chosen now (select (moment_after mo.start m.now) bs d (cells_of x ts m.values m.versions)) src
              (R r) e)
          by (takes i y z u v t o) = rw (u, o) (take_is l w g i y z (deep + 1) v t h)
          by (unclear u o) = rw (u, o) (none_is l w)

      -- the run waits
      wait_run : (at : ℕ) (t : Trigger) (q d : ℕ) (c : Bool) → trigger ts f at ≡ got t q →
          R (phase_m (Some (acts.wait at d c s)) r)
          ≡ waits (some (record { trigger = t; deadline = d; continue = c; source = src })) (R r)
      unfolding meant_run wait_of found_trigger
      wait_run at t q d c h = rw (h, found_trigger)

      waiting_is : {room : ℕ} {m : Machine} {e : Engine} → L now room m e → Here k r m →
          GoodRun f x ts mo tb m.sequences r →
          (at : ℕ) (t : Trigger) (q n : ℕ) (c : Bool) → trigger ts f at ≡ got t q →
          S now room (waiting_m k r s n (now + n) (acts.wait at (now + n) c s) m)
          (log_action now (Kind.wait n) src (R r)
          (add (record { at = now + n; work = Work.timeout (key_of x ts r.automation r.sequence) })
          (store (waits (some (record { trigger = t; deadline = now + n; continue = c; source = src })) (R r)) e)))
      unfolding waiting_m item_of work_of
      waiting_is {room} {m} {e} l w g at t q n c h =
          follow f x ts mo tb (log_action_m 16 n s r) (log_action now (Kind.wait n) src (R r))
          (add_is f x ts mo tb
          (subst (λ (y : Run). L now room (put_run_m k (phase_m (Some (acts.wait at (now + n) c s)) r) m)
          (store y e)) (wait_run at t q (now + n) c h)
          (store_is f x ts mo tb l k w.inside (phase_m (Some (acts.wait at (now + n) c s)) r)
          (record { rule = g.rule; old = g.old; places = g.places; phase = (t, (q, h)) })
          (ap (λ (y : ARun). y.automation) w.is) (ap (λ (y : ARun). y.sequence) w.is))) (now + n)
          (queue.Timeout r.automation r.sequence) low)
          (λ y. told_action y 16 n (Kind.wait n) (waiting n) low)
          (λ i z p. s_log_action i z 16 n s r _ p)
          (λ i o. over_action i now (Kind.wait n) src (R r) _ o)

      begin_wait_is : {room : ℕ} {m : Machine} {e : Engine} → L now room m e → Here k r m →
          GoodRun f x ts mo tb m.sequences r →
          (at : ℕ) (t : Trigger) (q n : ℕ) (c : Bool) → trigger ts f at ≡ got t q → four f (at + 16) ≡ n →
          eqb (get_or f (at + 20) 0) 1 ≡ c → n ≤ 86400 →
          S now room (begin_wait_m f k r s at m) (begin_wait now t n c src (R r) e)
      unfolding begin_wait_m begin_wait meant_run
      begin_wait_is {room} {m} {e} l w g at t q n c h i j o = by (case (absent t.note))
        where
          note : eqb (two f (at + 14)) 65535 ≡ absent t.note
          note = (matches_is f x ts mo tb at t q h).note

          late : later m.now n ≡ now + n
          late = ap (λ (y : ℕ). later y n) l.time ∙ later_is now n (omega (arith, l.soon))

          by : Case (absent t.note) → S now room (begin_wait_m f k r s at m) (begin_wait now t n c src (R r) e)
          by (is_true b) = rw (note ∙ b, b, i, j, late) (waiting_is l w g at t q n c h)
          by (is_false b) =
              rw (note ∙ b, b)
              (finish_is f x ts mo tb (uncertain_is f x ts mo tb l (alone kinds.wait) unsupported_wait
              (wait_reason f x ts mo tb) (wait_in mo)) k r
              (keyed (still_here w (uncertain_runs f (alone kinds.wait) m))))

      give_up_is : {room : ℕ} {m : Machine} {e : Engine} → L now room m e → Here k r m → (n : ℕ) → n < length ts →
          mem_t (T n) pl ≡ true →
          S now room (give_up_m f k r s n m)
          (finish now (R r) (log_action now (Kind.unknown (T n)) src (R r) (uncertain (T n) e)))
      unfolding give_up_m
      give_up_is {room} {m} {e} l w n h p =
          follow f x ts mo tb (finish_m k) (finish now (R r))
          (told_action (uncertain_is f x ts mo tb l (note_reason f n) (T n) (note_is f x ts mo tb n h) p) 18 n
          (Kind.unknown (T n)) (unknowing n h) low)
          (λ y. finish_is f x ts mo tb y k r
          (keyed (still_here w (action_runs 18 n s r (uncertain_m f (note_reason f n) m)
          ∙ uncertain_runs f (note_reason f n) m))))
          (λ i z o. s_finish i z k _ o)
          (λ i o. c_finish (Over i) (overflow_stays i) now (R r) _ o)

      less : {room : ℕ} {m : Machine} {e : Engine} → L now (suc room) m e → L now room m e
      less l = weaker f x ts mo tb (omega arith) l

      pub perform_is : {room : ℕ} {m : Machine} {e : Engine} → L now (suc room) m e → Here k r m →
          GoodRun f x ts mo tb m.sequences r →
          (a : AEffect) (b : Effect) (deep : ℕ) → Acts f x ts mo tb a b → PassE es pl deep b → r.depth ≤ deep + 1 →
          S now room (perform_m f x k r s a m) (perform now b src (R r) e)
      unfolding perform_m perform
      perform_is l w g a b deep (sets i v h j p q) t o =
          rw (p, q) (set_is l i v (declared i h (pass_set es pl deep (T i) (T v) (subst (PassE es pl deep) q t))) j)
      perform_is {room} {m} {e} l w g a b deep (toggles i h p q) t o =
          let d = declared i h (pass_toggle es pl deep (T i) (subst (PassE es pl deep) q t)) in
          rw (p, q)
          (subst (λ (n : ℕ). S now room (flip_m f x r s n m) (add (next_step now (R r)) (flip now (T n) src (R r) e)))
          d.1.1 (flip_is l d.0 d.1.0))
      perform_is l w g a b deep (delays n p q) t o =
          rw (p, q) (delay_is (less l) n (pass_delay es pl deep n (subst (PassE es pl deep) q t)))
      perform_is l w g a b deep (conditions at i j h p q) t o = rw (p, q) (condition_is (less l) w at i j h)
      perform_is l w g a b deep (chooses at n i bs j d y c u v p q) t o =
          rw (p, q) (choose_is (less l) w g at n i bs j d y deep c u v (subst (PassE es pl deep) q t) o)
      perform_is l w g a b deep (waits-at at i j n c h u v p q) t o =
          rw (p, q) (begin_wait_is (less l) w g at i j n c h u v (pass_wait es pl deep i n c (subst (PassE es pl deep) q t)))
      perform_is l w g a b deep (unknowns n h p q) t o =
          rw (p, q) (give_up_is (less l) w n h (pass_unknown es pl deep (T n) (subst (PassE es pl deep) q t)))
