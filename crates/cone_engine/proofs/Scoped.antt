-- Runs stay good: those of the cone's automations read and toggle only what lies inside, those of other automations write
-- only what lies outside. Every operation of the engine keeps this (`process_good`).
use Rattle.std.specs.Prelude.{if◌then◌else◌}
use Prim.Native.Nat.{ℕ, ◌+◌}
use mathlib.Core.Path.{◌≡◌, refl, sym, ap, ◌∙◌, subst}
use mathlib.Core.Bool.{Bool, true, false, not, ◌&&◌, ◌||◌}
use mathlib.Core.List.{List, [], ◌∷◌, ◌++◌}
use mathlib.Core.Option.{Option, none, some}
use lib.Dec.{eqb}
use Rattle.texts.specs.Lists.{absent, any, all, keep, find, tally, each, through}
use Rattle.texts.specs.Texts.{Text, text, eq_t}
use Rattle.model_spec.specs.Validate.{undecided}
use Rattle.model_spec.specs.Model.{
  Source,
  Moment,
  Effect,
  toggle,
  delay,
  condition,
  choose,
  wait,
  Actions,
  done,
  act,
  Branches,
  no_branch,
  branch,
  Automation,
  Input,
  reload,
}
use Rattle.engine_spec.specs.Cells.{Cell, cell_of, value_of, put}
use Rattle.engine_spec.specs.Kleene.{Truth, Yes, No, Unknown}
use Rattle.engine_spec.specs.Truth.{evaluate, evaluate_all, matches}
use Rattle.engine_spec.specs.Modes.{Decision, already_running, max_reached, start, stop_and_start, wait_in_line, decide}
use Rattle.engine_spec.specs.Records.{Key, Waiting, Run, Work, Item, Kind, Engine}
use Rattle.engine_spec.specs.Changes.{if_some, with_cells, add, append, with_runs, add_run, uncertain, adds}
use Rattle.engine_spec.specs.Engine.{
  same_run,
  of_rule,
  other_run,
  of_other_rule,
  queued_for,
  in_place,
  store,
  left,
  waits,
  released,
  fresh_run,
  awaits,
  woken,
  toggled,
  ◌then◌,
  select,
  moment,
  next_step,
  log,
  log_rule,
  log_action,
  expiry_of,
  change_of,
  update,
  let_go,
  release,
  finish,
  wake,
  begin,
  carry_out,
  admit,
  offer,
  trigger,
  go_on_after,
  write,
  flip,
  tested,
  chosen,
  begin_wait,
  perform,
  go_on,
  step,
  resume,
  wait_over,
  end_wait,
  time_out,
  expire,
  go_stale,
  drop_runs,
  process,
}
use Rattle.lint_spec.specs.Touches.{Action, within, walk, within_branches, effect_reads}
use Rattle.cone_engine.proofs.Base.{
  and_l,
  and_r,
  and_i,
  if_prop,
  some_eq,
  none_some,
  append_assoc,
  Every,
  every_keep,
  every_end,
  every_each,
  every_find,
  all_l,
  all_r,
  all_i,
}
use Rattle.cone_engine.proofs.View
use Rattle.cone_engine.proofs.Steps

then_walk : (a b : Actions) → walk (a then b) ≡ walk a ++ walk b
unfolding ◌then◌ walk
then_walk done b = refl
then_walk (act s f l) b = λ i. record {
  source = s;
  effect =
      f;
} ∷ (ap {B = List Action} (λ t. within f ++ t) (then_walk l b) ∙ sym (append_assoc (within f) (walk l) (walk b))) i

module _ (in_e in_a : Text → Bool) where
  abbrev Good : Engine → Type 0
  Good e = Every (Steps.good_run in_e in_a) e.runs

  abbrev okay : Run → Type 0
  okay r = Steps.good_run in_e in_a r ≡ true

  pub g_adds : (l : List Item) (e : Engine) → Good e → Good (adds l e)
  unfolding adds through add
  g_adds [] e g = g
  g_adds (i ∷ l) e g = g_adds l (add i e) g

  g_store : (r : Run) (e : Engine) → okay r → Good e → Good (store r e)
  unfolding store with_runs in_place
  g_store r e k g = every_each (Steps.good_run in_e in_a) (in_place r) (λ x q. if_prop okay (same_run r.key x) k q)
      e.runs g

  g_update : (now : ℕ) (x v : Text) (id : Option Text) (src : Option Source) (k : Kind) (e : Engine) → Good e
      → Good (update now x v id src k e)
  unfolding update log append with_cells
  g_update now x v id src k e g =
      g_adds (change_of now x (value_of x e.cells) v) _
      (g_adds (expiry_of now (cell_of x (put x v 1 e.cells))) (with_cells (put x v 1 e.cells) e) g)

  g_release : (now : ℕ) (id : Text) (e : Engine) → Good e → Good (release now id e)
  unfolding release if_some let_go
  g_release now id e g = go (find (queued_for id) e.runs)
      (λ r p. every_find (Steps.good_run in_e in_a) (queued_for id) e.runs r g p)
    where
      go : (o : Option Run) → ((r : Run) → o ≡ some r → okay r) → Good (if_some (let_go now) o e)
      go none k = g
      go (some r) k = unfold add in (g_store (released r) e (unfold Steps.good_run in (k r refl)) g)

  g_finish : (now : ℕ) (r : Run) (e : Engine) → Good e → Good (finish now r e)
  unfolding finish log_rule log append with_runs
  g_finish now r e g = g_release now r.key.rule _ (every_keep (Steps.good_run in_e in_a) (other_run r.key) e.runs g)

  g_wake : (now : ℕ) (x from to : Text) (e : Engine) → Good e → Good (wake now x from to e)
  unfolding wake with_runs woken
  g_wake now x from to e g =
      g_adds (each (next_step now) (keep (awaits x from to) e.runs)) (with_runs (each (woken x from to) e.runs) e)
      (every_each (Steps.good_run in_e in_a) (woken x from to)
      (λ r q. if_prop okay (awaits x from to r) (no_wait r q) q) e.runs g)
    where
      no_wait : (r : Run) → okay r → okay (waits none r)
      no_wait r q = unfold Steps.good_run Steps.ok_wait in
          (and_i (Steps.fine_acts in_e in_a (in_a r.key.rule) r.actions) true
          (and_l _ (Steps.ok_wait in_e in_a (in_a r.key.rule) r.waiting) q) refl)

  acts_of : (r : Automation) → Steps.good_rule in_e in_a r ≡ true → Steps.fine_acts in_e in_a (in_a r.id) r.actions ≡ true
  unfolding Steps.good_rule
  acts_of r g = and_r (not (in_a r.id) || Steps.good_head in_e in_a r)
      (Steps.fine_acts in_e in_a (in_a r.id) r.actions) g

  new_good : (r : Automation) (later : Bool) (made : List Text) → Steps.good_rule in_e in_a r ≡ true
      → okay (fresh_run r later made)
  unfolding fresh_run Steps.good_run Steps.ok_wait
  new_good r later made k = and_i (Steps.fine_acts in_e in_a (in_a r.id) r.actions) true (acts_of r k) refl

  g_begin : (now : ℕ) (r : Automation) (later : Bool) (e : Engine) → Steps.good_rule in_e in_a r ≡ true → Good e
      → Good (begin now r later e)
  unfolding begin log_rule log append add_run
  g_begin now r later e k g =
      g_adds (if later then [] else next_step now (fresh_run r later e.made) ∷ []) _
      (every_end (Steps.good_run in_e in_a) e.runs (fresh_run r later e.made) g (new_good r later e.made k))

  g_carry : (now : ℕ) (d : Decision) (r : Automation) (e : Engine) → Steps.good_rule in_e in_a r ≡ true → Good e
      → Good (carry_out now d r e)
  unfolding carry_out log_rule log append with_runs
  g_carry now already_running r e k g = g
  g_carry now max_reached r e k g = g
  g_carry now start r e k g = g_begin now r false e k g
  g_carry now stop_and_start r e k g =
      g_begin now r false _ k (every_keep (Steps.good_run in_e in_a) (of_other_rule r.id) e.runs g)
  g_carry now wait_in_line r e k g = g_begin now r true e k g

  g_admit : (now : ℕ) (t : Truth) (r : Automation) (e : Engine) → Steps.good_rule in_e in_a r ≡ true → Good e
      → Good (admit now t r e)
  unfolding admit uncertain
  g_admit now Yes r e k g = go r.notes
    where
      go : (l : List Text) → Good (elim l
          [ [] ↦ carry_out now (decide r.mode r.max (tally (of_rule r.id) e.runs)) r e | x ∷ y ↦ e ])
      go [] = g_carry now _ r e k g
      go (x ∷ y) = g
  g_admit now No r e k g = g
  g_admit now Unknown r e k g = g

  g_offer : (now : ℕ) (x from to : Text) (r : Automation) (e : Engine) → Steps.good_rule in_e in_a r ≡ true → Good e
      → Good (offer now x from to r e)
  unfolding offer log append
  g_offer now x from to r e k g =
      if_prop Good (any (matches x from to) r.triggers)
      (g_admit now (evaluate_all (moment now e) r.conditions e.cells) r _ k g) g

  g_offers : (now : ℕ) (x from to : Text) (l : List Automation) (e : Engine) → Every (Steps.good_rule in_e in_a) l
      → Good e → Good (through (offer now x from to) l e)
  unfolding through
  g_offers now x from to [] e k g = g
  g_offers now x from to (r ∷ l) e k g =
      g_offers now x from to l (offer now x from to r e) k.1 (g_offer now x from to r e k.0 g)

  g_flip : (now : ℕ) (x : Text) (src : Source) (r : Run) (e : Engine) → Good e → Good (flip now x src r e)
  unfolding flip write uncertain
  g_flip now x src r e g = if_prop Good (undecided (value_of x e.cells)) g
      (g_update now x (toggled (value_of x e.cells)) (some r.key.rule) (some src) Kind.action e g)

  g_tested : (now : ℕ) (t : Truth) (r : Run) (e : Engine) → Good e → Good (tested now t r e)
  unfolding tested add uncertain
  g_tested now Yes r e g = g
  g_tested now No r e g = g_finish now r e g
  g_tested now Unknown r e g = g_finish now r _ g

  select_fine : (b : Bool) (t : Moment) (bs : Branches) (d : Actions) (l : List Cell)
      → all (Steps.fine in_e in_a b) (within_branches bs ++ walk d) ≡ true
      → (a : Actions) → select t bs d l ≡ some a → Steps.fine_acts in_e in_a b a ≡ true
  unfolding select within_branches Steps.fine_acts
  select_fine b t no_branch d l k a e = subst (λ (z : Actions). all (Steps.fine in_e in_a b) (walk z) ≡ true) (some_eq e) k
  select_fine b t (branch ps as' bs) d l k a e = go (evaluate_all t ps l) e (select_fine b t bs d l rest a)
    where
      both : all (Steps.fine in_e in_a b) (walk as') && all (Steps.fine in_e in_a b) (within_branches bs ++ walk d) ≡ true
      both = and_i _ _ (all_l (Steps.fine in_e in_a b) (walk as') _
          (sym (ap (all (Steps.fine in_e in_a b)) (append_assoc (walk as') (within_branches bs) (walk d))) ∙ k))
          (all_r (Steps.fine in_e in_a b) (walk as') _
          (sym (ap (all (Steps.fine in_e in_a b)) (append_assoc (walk as') (within_branches bs) (walk d))) ∙ k))

      rest : all (Steps.fine in_e in_a b) (within_branches bs ++ walk d) ≡ true
      rest = and_r (all (Steps.fine in_e in_a b) (walk as')) _ both

      go : (v : Truth) → elim v [ Yes ↦ some as' | No ↦ select t bs d l | Unknown ↦ none ] ≡ some a
          → (select t bs d l ≡ some a → all (Steps.fine in_e in_a b) (walk a) ≡ true)
          → all (Steps.fine in_e in_a b) (walk a) ≡ true
      go Yes p ih = subst (λ (z : Actions). all (Steps.fine in_e in_a b) (walk z) ≡ true) (some_eq p)
          (and_l (all (Steps.fine in_e in_a b) (walk as')) _ both)
      go No p ih = ih p
      go Unknown p ih = absurd (none_some p)

  -- the run after it is good, whatever the effect
  g_perform : (now : ℕ) (f : Effect) (src : Source) (r : Run) (e : Engine)
      → Steps.fine in_e in_a (in_a r.key.rule) (record { source = src; effect = f }) ≡ true
      → all (Steps.fine in_e in_a (in_a r.key.rule)) (within f) ≡ true → okay r → Good e → Good (perform now f src r e)
  unfolding perform add write log_action log append go_on_after uncertain
  g_perform now (Effect.set x v) src r e q w k g = g_update now x v (some r.key.rule) (some src) Kind.action e g
  g_perform now (toggle x) src r e q w k g = g_flip now x src r e g
  g_perform now (delay m) src r e q w k g = g
  g_perform now (condition p) src r e q w k g = g_tested now (evaluate (moment now e) p e.cells) r _ g
  g_perform now (choose bs d) src r e q w k g = unfold chosen in
      (go (select (moment now e) bs d e.cells)
      (λ a p. select_fine (in_a r.key.rule) (moment now e) bs d e.cells (unfold within in w) a p))
    where
      joined : (a : Actions) → Steps.fine_acts in_e in_a (in_a r.key.rule) a ≡ true → okay (left (a then r.actions) r)
      joined a p = unfold Steps.good_run Steps.fine_acts in
          (and_i _ (Steps.ok_wait in_e in_a (in_a r.key.rule) r.waiting)
          (ap (all (Steps.fine in_e in_a (in_a r.key.rule))) (then_walk a r.actions)
          ∙ all_i (Steps.fine in_e in_a (in_a r.key.rule)) (walk a) (walk r.actions) p
          (and_l (all (Steps.fine in_e in_a (in_a r.key.rule)) (walk r.actions)) _ k))
          (and_r (all (Steps.fine in_e in_a (in_a r.key.rule)) (walk r.actions)) _ k))

      go : (o : Option Actions) → ((a : Actions) → o ≡ some a → Steps.fine_acts in_e in_a (in_a r.key.rule) a ≡ true)
          → Good (chosen now o src r e)
      go none p = unfold chosen in (g_finish now r _ g)
      go (some a) p = unfold chosen in (g_store (left (a then r.actions) r) e (joined a (p a refl)) g)
  g_perform now (wait t s c) src r e q w k g = unfold begin_wait in
      (if_prop Good (absent t.note)
      (g_store (waits (some (record { trigger = t; deadline = now + s; continue = c; source = src })) r) e
      (waiting (in_a r.key.rule) refl) g) (g_finish now r _ g))
    where
      by : (b : Bool) → Steps.fine in_e in_a b (record { source = src; effect = wait t s c }) ≡ true
          → not b || in_e t.entity ≡ true
      by true z = unfold Steps.fine effect_reads all in (and_l (in_e t.entity) true (and_l (in_e t.entity && true) _ z))
      by false z = refl

      waiting : (b : Bool) → in_a r.key.rule ≡ b
          → okay (waits (some (record { trigger = t; deadline = now + s; continue = c; source = src })) r)
      waiting b z = unfold Steps.good_run Steps.ok_wait in
          (and_i (Steps.fine_acts in_e in_a (in_a r.key.rule) r.actions) _
          (and_l _ (Steps.ok_wait in_e in_a (in_a r.key.rule) r.waiting) k) (by (in_a r.key.rule) q))
  g_perform now (Effect.unknown reason) src r e q w k g = g_finish now r _ g

  g_go_on : (now : ℕ) (l : Actions) (r : Run) (e : Engine) → Steps.fine_acts in_e in_a (in_a r.key.rule) l ≡ true
      → okay r → Good e → Good (go_on now l r e)
  unfolding go_on
  g_go_on now done r e q k g = g_finish now r e g
  g_go_on now (act src f rest) r e q k g =
      g_perform now f src (left rest r) _ (and_l _ _ all_of) (all_l F (within f) (walk rest) behind) kept
      (g_store (left rest r) e kept g)
    where
      F : Action → Bool
      F = Steps.fine in_e in_a (in_a r.key.rule)

      all_of : F (record { source = src; effect = f }) && all F (within f ++ walk rest) ≡ true
      all_of = unfold Steps.fine_acts walk all in q

      behind : all F (within f ++ walk rest) ≡ true
      behind = and_r (F (record { source = src; effect = f })) _ all_of

      kept : okay (left rest r)
      kept = unfold Steps.good_run Steps.fine_acts in
          (and_i (all F (walk rest)) _ (all_r F (within f) (walk rest) behind)
          (and_r (all F (walk r.actions)) (Steps.ok_wait in_e in_a (in_a r.key.rule) r.waiting) k))

  g_resume : (now : ℕ) (k : Key) (e : Engine) → Good e → Good (resume now k e)
  unfolding resume if_some step
  g_resume now k e g = go (find (same_run k) e.runs)
      (λ r p. every_find (Steps.good_run in_e in_a) (same_run k) e.runs r g p)
    where
      go : (o : Option Run) → ((r : Run) → o ≡ some r → okay r)
          → Good (if_some (step now) o e)
      go none q = g
      go (some r) q = if_prop Good (r.queued || not (absent r.waiting)) g
          (g_go_on now r.actions r e
          (unfold Steps.good_run in (and_l (Steps.fine_acts in_e in_a (in_a r.key.rule) r.actions) _ (q r refl)))
          (q r refl) g)

  g_time_out : (now : ℕ) (k : Key) (e : Engine) → Good e → Good (time_out now k e)
  unfolding time_out if_some end_wait
  g_time_out now k e g = go (find (same_run k) e.runs)
      (λ r p. every_find (Steps.good_run in_e in_a) (same_run k) e.runs r g p)
    where
      go : (o : Option Run) → ((r : Run) → o ≡ some r → okay r) → Good (if_some (end_wait now) o e)
      go none q = g
      go (some r) q = by r.waiting
        where
          no_wait : okay (waits none r)
          no_wait = unfold Steps.good_run Steps.ok_wait in
              (and_i (Steps.fine_acts in_e in_a (in_a r.key.rule) r.actions) true
              (and_l _ (Steps.ok_wait in_e in_a (in_a r.key.rule) r.waiting) (q r refl)) refl)

          by : (w : Option Waiting) → Good (if_some (λ w. wait_over now w r) w e)
          by none = g
          by (some w) = unfold wait_over log_action log append add in
              (if_prop Good (eqb w.deadline now)
              (if_prop Good w.continue (g_store (waits none r) _ no_wait g) (g_finish now r _ g)) g)

  g_stale : (now : ℕ) (x : Text) (n : ℕ) (e : Engine) → Good e → Good (go_stale now x n e)
  unfolding go_stale if_some
  g_stale now x n e g = go (cell_of x e.cells)
    where
      go : (o : Option Cell) → Good (if_some (expire now n) o e)
      go none = g
      go (some d) = unfold expire log append with_cells add in
          (if_prop Good (eqb d.version n && not (eq_t d.value (text "unknown"))) g g)

  pub process_good : (now : ℕ) (rules : List Automation) (w : Work) (e : Engine)
      → Every (Steps.good_rule in_e in_a) rules → Good e → Good (process now rules w e)
  unfolding process trigger drop_runs with_runs log append
  process_good now rules (Work.external (Input.set x v)) e k g = g_update now x v none none Kind.external e g
  process_good now rules (Work.external Input.restart) e k g = tt
  process_good now rules (Work.external reload) e k g = tt
  process_good now rules (Work.changed x from to) e k g = g_offers now x from to rules _ k (g_wake now x from to e g)
  process_good now rules (Work.resume i) e k g = g_resume now i e g
  process_good now rules (Work.timeout i) e k g = g_time_out now i e g
  process_good now rules (Work.stale x n) e k g = g_stale now x n e g
