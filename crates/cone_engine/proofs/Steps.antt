-- A step of the loop, operation by operation: on work inside the cone two engines that are alike there stay alike
-- (`process_in`); work outside leaves an engine as it is, inside the cone (`process_out`).
use Rattle.std.specs.Prelude.{if◌then◌else◌}
use Prim.Native.Nat.{ℕ, ◌+◌}
use mathlib.Core.Path.{◌≡◌, refl, sym, ap, ◌∙◌, subst}
use mathlib.Core.Bool.{Bool, true, false, not, ◌&&◌, ◌||◌, true≢false, false≢true}
use mathlib.Core.List.{List, [], ◌∷◌, ◌++◌}
use mathlib.Core.Option.{Option, none, some}
use lib.Dec.{eqb}
use lib.ListN.{length}
use Rattle.texts.specs.Lists.{
  ◌▸◌,
  absent,
  present_and,
  absent_or,
  any,
  all,
  keep,
  find,
  tally,
  each,
  flat,
  through,
}
use Rattle.texts.specs.Texts.{Text, text, eq_t}
use Rattle.model_spec.specs.Validate.{undecided}
use Rattle.model_spec.specs.Model.{
  Source,
  Moment,
  Trigger,
  Effect,
  toggle,
  delay,
  condition,
  choose,
  wait,
  Actions,
  done,
  act,
  Branches,
  no_branch,
  branch,
  Automation,
  Input,
  reload,
}
use Rattle.engine_spec.specs.Cells.{Cell, cell_of, value_of, put}
use Rattle.engine_spec.specs.Kleene.{Truth, Yes, No, Unknown}
use Rattle.engine_spec.specs.Truth.{moment_after, evaluate, evaluate_all, matches}
use Rattle.engine_spec.specs.Modes.{Decision, already_running, max_reached, start, stop_and_start, wait_in_line, decide}
use Rattle.engine_spec.specs.Reasons.{unsupported_wait}
use Rattle.engine_spec.specs.Records.{Key, Waiting, Run, Work, Kind, Change, Engine}
use Rattle.engine_spec.specs.Changes.{if_some, add, add_run, adds}
use Rattle.engine_spec.specs.Engine.{
  same_run,
  of_rule,
  other_run,
  of_other_rule,
  queued_for,
  in_place,
  store,
  left,
  waits,
  released,
  fresh_run,
  awaits,
  woken,
  toggled,
  ◌then◌,
  select,
  moment,
  at_once,
  next_step,
  log,
  log_rule,
  log_action,
  expiry_of,
  change_of,
  update,
  let_go,
  release,
  finish,
  wake,
  begin,
  carry_out,
  admit,
  offer,
  trigger,
  go_on_after,
  write,
  flip,
  tested,
  chosen,
  begin_wait,
  perform,
  go_on,
  step,
  resume,
  wait_over,
  end_wait,
  time_out,
  expire,
  go_stale,
  drop_runs,
  process,
}
use Rattle.lint_spec.specs.Touches
use Rattle.lint_spec.specs.Touches.{Action, within, walk, conditions_of, Write, toggles, predicate_reads, effect_reads}
use Rattle.cone_engine.proofs.Base.{
  Case,
  is_true,
  is_false,
  case,
  and_l,
  and_r,
  if_both,
  eq_t_eq,
  keep_nil,
  keep_each,
  keep_swap,
  not-true,
  tally_keep,
  Every,
  every_find,
  found_is,
  all_l,
  all_r,
  any_none,
  all_every,
}
use Rattle.cone_engine.proofs.View
use Rattle.cone_engine.proofs.View.{boundary, bare, renum, Found, neither, both}

module _ (in_e in_a : Text → Bool) where
  abbrev pub Like : Engine → Engine → Type 0
  Like e c = View.Like in_e in_a e c

  -- ---- what an automation of the cone reads and toggles lies inside; what one outside writes lies outside

  unfoldable pub out_write : Option Write → Bool
  out_write = absent_or (λ w. not (in_e w.entity))

  unfoldable pub fine : Bool → Action → Bool
  fine true a = all in_e (effect_reads a.effect) && all in_e (toggles a.effect)
  fine false a = out_write (Touches.write a.source a.effect)

  unfoldable pub fine_acts : Bool → Actions → Bool
  fine_acts c l = all (fine c) (walk l)

  unfoldable pub ok_wait : Bool → Option Waiting → Bool
  ok_wait c none = true
  ok_wait c (some w) = not c || in_e w.trigger.entity

  unfoldable pub good_run : Run → Bool
  good_run r = fine_acts (in_a r.key.rule) r.actions && ok_wait (in_a r.key.rule) r.waiting

  -- a trigger without a note, inside
  unfoldable pub ok_trigger : Trigger → Bool
  ok_trigger t = not (absent t.note) || in_e t.entity

  unfoldable pub good_head : Automation → Bool
  good_head r = all ok_trigger r.triggers && all in_e (flat predicate_reads r.conditions)

  unfoldable pub good_rule : Automation → Bool
  good_rule r = (not (in_a r.id) || good_head r) && fine_acts (in_a r.id) r.actions

  -- ---- writes

  update_in : (now : ℕ) (x v : Text) (id : Option Text) (src : Option Source) (k : Kind) (e c : Engine) → in_e x ≡ true
      → Like e c
      → Like (update now x v id src k e) (update now x v id src k c)
  unfolding update log
  update_in now x v id src k e c i h =
      let s : keep (View.cone_cell in_e in_a) e.cells ≡ keep (View.cone_cell in_e in_a) c.cells = h.of_cells in
      let p : keep (View.cone_cell in_e in_a) (put x v 1 e.cells) ≡ keep (View.cone_cell in_e in_a)
      (put x v 1 c.cells) = View.same_put in_e in_a e.cells c.cells s x v 1 in
      let b : value_of x e.cells ≡ value_of x c.cells = View.same_value in_e in_a e.cells c.cells s x i in
      View.l_adds in_e in_a _ _
      (View.l_append in_e in_a
      (View.l_adds in_e in_a _ _ (View.l_with_cells in_e in_a h (put x v 1 e.cells) (put x v 1 c.cells) p)
      (expiry_of now (cell_of x (put x v 1 e.cells))) (expiry_of now (cell_of x (put x v 1 c.cells)))
      (λ j. keep (View.cone_item in_e in_a)
      (expiry_of now (View.same_cell in_e in_a (put x v 1 e.cells) (put x v 1 c.cells) p x i j))))
      _ _ (λ j. record {
        at = now;
        kind = k;
        automation = id;
        source = src;
        change =
            some (record { entity = x; before = b j; after = v });
      }))
      (change_of now x (value_of x e.cells) v) (change_of now x (value_of x c.cells) v)
      (λ j. keep (View.cone_item in_e in_a) (change_of now x (b j) v))

  -- a record of a change outside
  trace_out : (now : ℕ) (k : Kind) (id : Option Text) (src : Option Source) (d : Change) → boundary k ≡ false
      → in_e d.entity ≡ false
      → View.cone_trace in_e in_a (record { at = now; kind = k; automation = id; source = src; change = some d }) ≡ false
  unfolding View.cone_trace present_and
  trace_out now k id src d p q = rw (p, q)

  update_out : (now : ℕ) (x v : Text) (id : Option Text) (src : Option Source) (k : Kind) (e : Engine) → in_e x ≡ false
      → boundary k ≡ false → Like (update now x v id src k e) e
  unfolding update log
  update_out now x v id src k e i q =
      View.like_trans in_e in_a (View.o_adds in_e in_a _ (change_of now x (value_of x e.cells) v)
      (View.change_out in_e in_a now x (value_of x e.cells) v i))
      (View.like_trans in_e in_a (View.o_append in_e in_a _ _ (trace_out now k id src _ q i))
      (View.like_trans in_e in_a (View.o_adds in_e in_a _ (expiry_of now (cell_of x (put x v 1 e.cells)))
      (View.expiry_of_out in_e in_a now x i (put x v 1 e.cells)))
      (View.o_with_cells in_e in_a e (put x v 1 e.cells) (View.put_out in_e in_a x v 1 i e.cells))))

  update_like : (now : ℕ) (x v : Text) (id : Option Text) (src : Option Source) (k : Kind) (e c : Engine)
      → boundary k ≡ false → Like e c
      → Like (update now x v id src k e) (update now x v id src k c)
  update_like now x v id src k e c q h = go (case (in_e x))
    where
      go : Case (in_e x) → Like (update now x v id src k e) (update now x v id src k c)
      go (is_true i) = update_in now x v id src k e c i h
      go (is_false i) = View.like_square in_e in_a (update_out now x v id src k e i q) (update_out now x v id src k c i q) h

  -- a record that shows no change
  quiet : (now now' : ℕ) (k k' : Kind) (id id' : Option Text) (s s' : Option Source) (e c : Engine)
      → boundary k ≡ false → boundary k' ≡ false → Like e c
      → Like (log now k id s none e) (log now' k' id' s' none c)
  quiet now now' k k' id id' s s' e c p q h =
      View.like_square in_e in_a (View.o_log in_e in_a e now k id s p) (View.o_log in_e in_a c now' k' id' s' q) h

  quiet_rule : (now : ℕ) (k k' : Kind) (id : Text) (e c : Engine) → boundary k ≡ false → boundary k' ≡ false
      → Like e c → Like (log_rule now k id e) (log_rule now k' id c)
  unfolding log_rule
  quiet_rule now k k' id e c p q h = quiet now now k k' (some id) (some id) none none e c p q h

  out_rule : (now : ℕ) (k : Kind) (id : Text) (e : Engine) → boundary k ≡ false → Like (log_rule now k id e) e
  unfolding log_rule
  out_rule now k id e p = View.o_log in_e in_a e now k (some id) none p

  quiet_act : (now : ℕ) (k : Kind) (src : Source) (r : Run) (n : ℕ) (e c : Engine) → boundary k ≡ false → Like e c
      → Like (log_action now k src r e) (log_action now k src (renum n r) c)
  unfolding log_action
  quiet_act now k src r n e c p h = quiet now now k k (some r.key.rule) (some r.key.rule) (some src)
      (some src) e c p p h

  out_act : (now : ℕ) (k : Kind) (src : Source) (r : Run) (e : Engine) → boundary k ≡ false
      → Like (log_action now k src r e) e
  unfolding log_action
  out_act now k src r e p = View.o_log in_e in_a e now k (some r.key.rule) (some src) p

  -- ---- runs

  store_like : (r : Run) (n : ℕ) (e c : Engine) → Like e c → Like (store r e) (store (renum n r) c)
  unfolding store bare
  store_like r n e c h =
      View.l_with_runs in_e in_a h (each (in_place r) e.runs) (each (in_place (renum n r)) c.runs)
      (View.bares_place in_e in_a r e.runs ∙ ap (each (in_place (bare r))) h.of_runs
      ∙ sym (View.bares_place in_e in_a (renum n r) c.runs))

  store_out : (r : Run) (e : Engine) → in_a r.key.rule ≡ false → Like (store r e) e
  unfolding store View.cone_run
  store_out r e i = View.o_with_runs in_e in_a e (each (in_place r) e.runs) (View.bares_place_out in_e in_a r i e.runs)

  next_out : (now : ℕ) (r : Run) (e : Engine) → in_a r.key.rule ≡ false → Like (add (next_step now r) e) e
  unfolding next_step at_once
  next_out now r e i = View.o_add in_e in_a e (next_step now r) (unfold View.cone_item View.cone_work in i)

  line_bare : (id : Text) (x : Run) → queued_for id (bare x) ≡ queued_for id x
  unfolding queued_for of_rule bare
  line_bare id x = refl

  line_in : (id : Text) → in_a id ≡ true → (x : Run) → queued_for id x ≡ true → View.cone_run in_e in_a x ≡ true
  unfolding queued_for
  line_in id i x q = View.of_rule_in in_e in_a id i x (and_l (of_rule id x) x.queued q)

  release_like : (now : ℕ) (id : Text) (e c : Engine) → in_a id ≡ true → Like e c
      → Like (release now id e) (release now id c)
  unfolding release if_some let_go
  release_like now id e c i h =
      go (View.find_pair in_e in_a (queued_for id) (line_in id i) (line_bare id) e.runs c.runs h.of_runs)
    where
      go : {o o' : Option Run} → Found o o'
          → Like (if_some (let_go now) o e) (if_some (let_go now) o' c)
      go neither = h
      go (both r n) = unfold next_step in (View.l_add in_e in_a (store_like (released r) n e c h) (next_step now r))

  line_out : (id : Text) → in_a id ≡ false → (r : Run) → queued_for id r ≡ true → in_a r.key.rule ≡ false
  unfolding queued_for of_rule
  line_out id i r q = ap in_a (eq_t_eq r.key.rule id (and_l (of_rule id r) r.queued q)) ∙ i

  release_out : (now : ℕ) (id : Text) (e : Engine) → in_a id ≡ false → Like (release now id e) e
  unfolding release if_some let_go
  release_out now id e i = go (find (queued_for id) e.runs) (found_is (queued_for id) e.runs)
    where
      go : (o : Option Run) → ((r : Run) → o ≡ some r → queued_for id r ≡ true) → Like (if_some (let_go now) o e) e
      go none k = View.like_refl in_e in_a
      go (some r) k =
          let j : in_a r.key.rule ≡ false = line_out id i r (k r refl) in
          View.like_trans in_e in_a (next_out now r (store (released r) e) j) (store_out (released r) e j)

  other_bare : (k : Key) (x : Run) → other_run k (bare x) ≡ other_run k x
  unfolding other_run same_run bare
  other_bare k x = refl

  finish_like : (now : ℕ) (r : Run) (n : ℕ) (e c : Engine) → in_a r.key.rule ≡ true → Like e c
      → Like (finish now r e) (finish now (renum n r) c)
  unfolding finish View.cone_run boundary
  finish_like now r n e c i h =
      release_like now r.key.rule _ _ i
      (quiet_rule now (Kind.complete r.number) (Kind.complete n) r.key.rule _ _ refl refl
      (View.l_with_runs in_e in_a h (keep (other_run r.key) e.runs) (keep (other_run r.key) c.runs)
      (View.bares_keep in_e in_a (other_run r.key) (other_bare r.key) e.runs
      ∙ ap (keep (other_run r.key)) h.of_runs
      ∙ sym (View.bares_keep in_e in_a (other_run r.key) (other_bare r.key) c.runs))))

  finish_out : (now : ℕ) (r : Run) (e : Engine) → in_a r.key.rule ≡ false → Like (finish now r e) e
  unfolding finish View.cone_run boundary other_run
  finish_out now r e i =
      View.like_trans in_e in_a (release_out now r.key.rule _ i)
      (View.like_trans in_e in_a (out_rule now (Kind.complete r.number) r.key.rule _ refl)
      (View.o_with_runs in_e in_a e (keep (other_run r.key) e.runs)
      (View.bares_drop in_e in_a (other_run r.key) (λ x q. ap not (View.is_run_out in_e in_a r.key i x q)) e.runs)))

  -- ---- a change

  wake_like : (now : ℕ) (x from to : Text) (e c : Engine) → Like e c → Like (wake now x from to e) (wake now x from to c)
  unfolding wake
  wake_like now x from to e c h =
      View.l_adds in_e in_a _ _
      (View.l_with_runs in_e in_a h (each (woken x from to) e.runs) (each (woken x from to) c.runs)
      (View.bares_woken in_e in_a x from to e.runs ∙ ap (each (woken x from to)) h.of_runs
      ∙ sym (View.bares_woken in_e in_a x from to c.runs)))
      (each (next_step now) (keep (awaits x from to) e.runs)) (each (next_step now) (keep (awaits x from to) c.runs))
      (View.steps_keep in_e in_a now x from to e.runs
      ∙ ap (λ (l : List Run). each (next_step now) (keep (awaits x from to) l)) h.of_runs
      ∙ sym (View.steps_keep in_e in_a now x from to c.runs))

  new_like : (r : Automation) (later : Bool) (made made' : List Text) → in_a r.id ≡ true → keep in_a made ≡ keep in_a made'
      → fresh_run r later made' ≡ renum (length made' + 1) (fresh_run r later made)
  unfolding fresh_run
  new_like r later made made' i p =
      let s : tally (eq_t r.id) made' ≡ tally (eq_t r.id) made = sym (side made')
      ∙ ap (tally (eq_t r.id)) (sym p) ∙ side made in
      λ j. record {
        key = record { rule = r.id; sequence = s j };
        number = length made' + 1;
        actions =
            r.actions;
        waiting = none;
        queued = later;
      }
    where
      side : (l : List Text) → tally (eq_t r.id) (keep in_a l) ≡ tally (eq_t r.id) l
      side l = tally_keep (eq_t r.id) in_a (λ x q. ap in_a (sym (eq_t_eq r.id x q)) ∙ i) l

  started : (later : Bool) (n : ℕ) → boundary (if later then Kind.queued n else Kind.start n) ≡ false
  unfolding boundary
  started later n = if_both boundary later refl refl

  begin_like : (now : ℕ) (r : Automation) (later : Bool) (e c : Engine) → in_a r.id ≡ true → Like e c
      → Like (begin now r later e) (begin now r later c)
  unfolding begin
  begin_like now r later e c i h =
      rw (new_like r later e.made c.made i h.of_made) (go (fresh_run r later e.made) (length c.made + 1))
    where
      go : (x : Run) (n : ℕ)
          → Like (e ▸ add_run x ▸ log_rule now (if later then Kind.queued x.number else Kind.start x.number)
          r.id ▸ adds (if later then [] else next_step now x ∷ []))
          (c ▸ add_run (renum n x) ▸ log_rule now (if later then Kind.queued n else Kind.start n) r.id ▸ adds
          (if later then [] else next_step now (renum n x) ∷ []))
      go x n = View.l_adds in_e in_a _ _
          (quiet_rule now _ _ r.id _ _ (started later x.number) (started later n) (View.l_add_run in_e in_a h x n))
          (if later then [] else next_step now x ∷ []) (if later then [] else next_step now (renum n x) ∷ [])
          (unfold next_step in refl)

  begin_out : (now : ℕ) (r : Automation) (later : Bool) (e : Engine) → in_a r.id ≡ false → Like (begin now r later e) e
  unfolding begin
  begin_out now r later e i =
      View.like_trans in_e in_a (View.o_adds in_e in_a _
      (if later then [] else next_step now (fresh_run r later e.made) ∷ []) (first later))
      (View.like_trans in_e in_a (out_rule now _ r.id _ (started later _))
      (View.o_add_run in_e in_a e (fresh_run r later e.made) (unfold View.cone_run fresh_run in i)))
    where
      first : (b : Bool) → keep (View.cone_item in_e in_a)
          (if b then [] else next_step now (fresh_run r later e.made) ∷ []) ≡ []
      first true = keep_nil (View.cone_item in_e in_a)
      first false = unfold keep View.cone_item View.cone_work next_step at_once fresh_run in (rw i)

  drop_bare : (id : Text) (x : Run) → of_other_rule id (bare x) ≡ of_other_rule id x
  unfolding of_other_rule of_rule bare
  drop_bare id x = refl

  carry_like : (now : ℕ) (d : Decision) (r : Automation) (e c : Engine) → in_a r.id ≡ true → Like e c
      → Like (carry_out now d r e) (carry_out now d r c)
  unfolding carry_out boundary
  carry_like now already_running r e c i h = quiet_rule now Kind.single_running Kind.single_running r.id e c refl refl h
  carry_like now max_reached r e c i h = quiet_rule now Kind.max_reached Kind.max_reached r.id e c refl refl h
  carry_like now start r e c i h = begin_like now r false e c i h
  carry_like now stop_and_start r e c i h =
      begin_like now r false _ _ i
      (quiet_rule now Kind.cancel Kind.cancel r.id _ _ refl refl
      (View.l_with_runs in_e in_a h (keep (of_other_rule r.id) e.runs) (keep (of_other_rule r.id) c.runs)
      (View.bares_keep in_e in_a (of_other_rule r.id) (drop_bare r.id) e.runs
      ∙ ap (keep (of_other_rule r.id)) h.of_runs
      ∙ sym (View.bares_keep in_e in_a (of_other_rule r.id) (drop_bare r.id) c.runs))))
  carry_like now wait_in_line r e c i h = begin_like now r true e c i h

  carry_out_out : (now : ℕ) (d : Decision) (r : Automation) (e : Engine) → in_a r.id ≡ false
      → Like (carry_out now d r e) e
  unfolding carry_out boundary
  carry_out_out now already_running r e i = out_rule now Kind.single_running r.id e refl
  carry_out_out now max_reached r e i = out_rule now Kind.max_reached r.id e refl
  carry_out_out now start r e i = begin_out now r false e i
  carry_out_out now stop_and_start r e i =
      View.like_trans in_e in_a (begin_out now r false _ i)
      (View.like_trans in_e in_a (out_rule now Kind.cancel r.id _ refl)
      (View.o_with_runs in_e in_a e (keep (of_other_rule r.id) e.runs)
      (View.bares_drop in_e in_a (of_other_rule r.id)
      (λ x q. unfold of_other_rule in (ap not (View.of_rule_out in_e in_a r.id i x q))) e.runs)))
  carry_out_out now wait_in_line r e i = begin_out now r true e i

  admit_like : (now : ℕ) (t : Truth) (r : Automation) (e c : Engine) → in_a r.id ≡ true → Like e c
      → Like (admit now t r e) (admit now t r c)
  unfolding admit
  admit_like now Yes r e c i h = go r.notes _ _ (ap (decide r.mode r.max) n)
    where
      n : tally (of_rule r.id) e.runs ≡ tally (of_rule r.id) c.runs
      n = sym (side e.runs) ∙ ap (tally (of_rule r.id)) h.of_runs ∙ side c.runs
        where
          side : (l : List Run) → tally (of_rule r.id) (View.bares in_e in_a l) ≡ tally (of_rule r.id) l
          side l = View.tally_bares in_e in_a (of_rule r.id) (View.of_rule_in in_e in_a r.id i)
              (λ x. unfold of_rule bare in refl) l

      go : (l : List Text) (d d' : Decision) → d ≡ d'
          → Like (elim l [ [] ↦ carry_out now d r e | x ∷ y ↦ e ]) (elim l [ [] ↦ carry_out now d' r c | x ∷ y ↦ c ])
      go [] d d' p = subst (λ (z : Decision). Like (carry_out now d r e) (carry_out now z r c)) p
          (carry_like now d r e c i h)
      go (x ∷ y) d d' p = h
  admit_like now No r e c i h = h
  admit_like now Unknown r e c i h = View.l_uncertain in_e in_a h _ _

  admit_out : (now : ℕ) (t : Truth) (r : Automation) (e : Engine) → in_a r.id ≡ false → Like (admit now t r e) e
  unfolding admit
  admit_out now Yes r e i = go r.notes (decide r.mode r.max (tally (of_rule r.id) e.runs))
    where
      go : (l : List Text) (d : Decision) → Like (elim l [ [] ↦ carry_out now d r e | x ∷ y ↦ e ]) e
      go [] d = carry_out_out now d r e i
      go (x ∷ y) d = View.like_refl in_e in_a
  admit_out now No r e i = View.like_refl in_e in_a
  admit_out now Unknown r e i = View.o_uncertain in_e in_a e _

  offer_like : (now : ℕ) (x from to : Text) (r : Automation) (e c : Engine) → in_a r.id ≡ true
      → all in_e (flat predicate_reads r.conditions) ≡ true → Like e c
      → Like (offer now x from to r e) (offer now x from to r c)
  unfolding offer boundary
  offer_like now x from to r e c i k h =
      rw (← (View.like_truths in_e in_a now h r.conditions k))
      (View.like_if in_e in_a (any (matches x from to) r.triggers)
      (admit_like now (evaluate_all (moment now e) r.conditions e.cells) r _ _ i
      (quiet now now _ _ (some r.id) (some r.id) (some r.source) (some r.source) e c refl refl h))
      h)

  offer_out : (now : ℕ) (x from to : Text) (r : Automation) (e : Engine) → in_a r.id ≡ false
      → Like (offer now x from to r e) e
  unfolding offer boundary
  offer_out now x from to r e i =
      View.like_if_out in_e in_a (any (matches x from to) r.triggers)
      (View.like_trans in_e in_a (admit_out now (evaluate_all (moment now e) r.conditions e.cells) r _ i)
      (View.o_log in_e in_a e now _ (some r.id) (some r.source) refl))
      (View.like_refl in_e in_a)

  good_head_of : (r : Automation) → in_a r.id ≡ true → good_rule r ≡ true → good_head r ≡ true
  unfolding good_rule
  good_head_of r i g = rw i at (and_l (not (in_a r.id) || good_head r) (fine_acts (in_a r.id) r.actions) g)

  reads_in : (r : Automation) → in_a r.id ≡ true → good_rule r ≡ true
      → all in_e (flat predicate_reads r.conditions) ≡ true
  reads_in r i g = and_r (all ok_trigger r.triggers) (all in_e (flat predicate_reads r.conditions))
      (unfold good_head in (good_head_of r i g))

  offers_like : (now : ℕ) (x from to : Text) (l : List Automation) (e c : Engine) → Every good_rule l → Like e c
      → Like (through (offer now x from to) l e) (through (offer now x from to) (keep (View.cone_rule in_e in_a) l) c)
  unfolding through keep View.cone_rule
  offers_like now x from to [] e c g h = h
  offers_like now x from to (r ∷ l) e c g h = go (case (in_a r.id)) (offers_like now x from to l)
    where
      IH : Type 0
      IH = (e c : Engine) → Every good_rule l → Like e c
          → Like (through (offer now x from to) l e) (through (offer now x from to) (keep (View.cone_rule in_e in_a) l) c)

      go : Case (in_a r.id) → IH
          → Like (through (offer now x from to) l (offer now x from to r e))
          (through (offer now x from to)
          (if in_a r.id then r ∷ keep (View.cone_rule in_e in_a) l else keep (View.cone_rule in_e in_a) l) c)
      go (is_true i) ih = rw i (ih (offer now x from to r e) (offer now x from to r c) g.1
          (offer_like now x from to r e c i (reads_in r i g.0) h))
      go (is_false i) ih = rw i (ih (offer now x from to r e) c g.1
          (View.like_trans in_e in_a (offer_out now x from to r e i) h))

  -- outside the cone nothing of the cone is triggered
  match_out : (x from to : Text) (t : Trigger) → in_e x ≡ false → ok_trigger t ≡ true → matches x from to t ≡ false
  unfolding matches ok_trigger
  match_out x from to t i g = go (case (absent t.note)) (case (eq_t t.entity x))
    where
      go : Case (absent t.note) → Case (eq_t t.entity x)
          → absent t.note && eq_t t.entity x && not (eq_t from to) && absent_or (λ v. eq_t v from) t.from
          && absent_or (λ v. eq_t v to) t.to ≡ false
      go (is_false a) b = rw a
      go (is_true a) (is_false b) = rw (a, b)
      go (is_true a) (is_true b) = absurd (false≢true (sym i ∙ sym (ap in_e (eq_t_eq t.entity x b)) ∙ (rw a at g)))

  offers_out : (now : ℕ) (x from to : Text) → in_e x ≡ false → (l : List Automation) (e : Engine) → Every good_rule l
      → Like (through (offer now x from to) l e) e
  unfolding through
  offers_out now x from to i [] e g = View.like_refl in_e in_a
  offers_out now x from to i (r ∷ l) e g =
      View.like_trans in_e in_a (offers_out now x from to i l (offer now x from to r e) g.1) (go (case (in_a r.id)))
    where
      go : Case (in_a r.id) → Like (offer now x from to r e) e
      go (is_false j) = offer_out now x from to r e j
      go (is_true j) = unfold offer in (rw (no_match j) (View.like_refl in_e in_a))
        where
          no_match : in_a r.id ≡ true → any (matches x from to) r.triggers ≡ false
          no_match j = any_none (matches x from to) ok_trigger r.triggers
              (all_every ok_trigger r.triggers
              (and_l (all ok_trigger r.triggers) (all in_e (flat predicate_reads r.conditions))
              (unfold good_head in (good_head_of r j g.0))))
              (λ t k. match_out x from to t i k)

  awaits_out : (x from to : Text) → in_e x ≡ false → (r : Run) → View.cone_run in_e in_a r ≡ true → good_run r ≡ true
      → awaits x from to r ≡ false
  unfolding awaits good_run present_and View.cone_run ok_wait
  awaits_out x from to i r j g =
      go r.waiting (rw j at (and_r (fine_acts (in_a r.key.rule) r.actions)
      (ok_wait (in_a r.key.rule) r.waiting) g))
    where
      go : (w : Option Waiting) → ok_wait true w ≡ true → present_and (λ w. matches x from to w.trigger) w ≡ false
      go none k = refl
      go (some w) k = match_out x from to w.trigger i (unfold ok_trigger in (rw k (tr (absent w.trigger.note))))
        where
          tr : (b : Bool) → not b || true ≡ true
          tr true = refl
          tr false = refl

  none_awaits : (x from to : Text) → in_e x ≡ false → (l : List Run) → Every good_run l
      → keep (awaits x from to) (keep (View.cone_run in_e in_a) l) ≡ []
  unfolding keep
  none_awaits x from to i [] k = refl
  none_awaits x from to i (r ∷ l) k = by (case (View.cone_run in_e in_a r)) (none_awaits x from to i l k.1)
    where
      by : Case (View.cone_run in_e in_a r) → keep (awaits x from to) (keep (View.cone_run in_e in_a) l) ≡ []
          → keep (awaits x from to) (keep (View.cone_run in_e in_a) (r ∷ l)) ≡ []
      by (is_true a) ih = simp (a, awaits_out x from to i r a k.0) ih
      by (is_false a) ih = simp a ih

  wake_out : (now : ℕ) (x from to : Text) (e : Engine) → in_e x ≡ false → Every good_run e.runs
      → Like (wake now x from to e) e
  unfolding wake each
  wake_out now x from to e i g =
      View.like_trans in_e in_a
      (View.o_adds in_e in_a _ (each (next_step now) (keep (awaits x from to) e.runs)) none_woken)
      (View.o_with_runs in_e in_a e (each (woken x from to) e.runs)
      (View.bares_woken_out in_e in_a x from to good_run (awaits_out x from to i) e.runs g))
    where
      none_woken : keep (View.cone_item in_e in_a) (each (next_step now) (keep (awaits x from to) e.runs)) ≡ []
      none_woken = unfold next_step at_once View.cone_item View.cone_work View.cone_run in
          (keep_each (next_step now) (View.cone_item in_e in_a) (View.cone_run in_e in_a) (λ r. refl)
          (keep (awaits x from to) e.runs)
          ∙ ap (each (next_step now)) (keep_swap (View.cone_run in_e in_a) (awaits x from to) e.runs
          ∙ none_awaits x from to i e.runs g))

  -- ---- a run's next action

  write_like : (now : ℕ) (x v : Text) (src : Source) (r : Run) (n : ℕ) (e c : Engine) → Like e c
      → Like (write now x v src r e) (write now x v src (renum n r) c)
  unfolding write boundary
  write_like now x v src r n e c h = update_like now x v (some r.key.rule) (some src) Kind.action e c refl h

  write_out : (now : ℕ) (x v : Text) (src : Source) (r : Run) (e : Engine) → in_e x ≡ false → Like (write now x v src r e) e
  unfolding write boundary
  write_out now x v src r e i = update_out now x v (some r.key.rule) (some src) Kind.action e i refl

  flip_like : (now : ℕ) (x : Text) (src : Source) (r : Run) (n : ℕ) (e c : Engine) → in_e x ≡ true → Like e c
      → Like (flip now x src r e) (flip now x src (renum n r) c)
  unfolding flip
  flip_like now x src r n e c i h =
      rw (← (View.same_value in_e in_a e.cells c.cells h.of_cells x i))
      (View.like_if in_e in_a (undecided (value_of x e.cells)) (View.l_uncertain in_e in_a h _ _)
      (write_like now x (toggled (value_of x e.cells)) src r n e c h))

  flip_out : (now : ℕ) (x : Text) (src : Source) (r : Run) (e : Engine) → in_e x ≡ false → Like (flip now x src r e) e
  unfolding flip
  flip_out now x src r e i = View.like_if_out in_e in_a (undecided (value_of x e.cells))
      (View.o_uncertain in_e in_a e _) (write_out now x (toggled (value_of x e.cells)) src r e i)

  tested_like : (now : ℕ) (t : Truth) (r : Run) (n : ℕ) (e c : Engine) → in_a r.key.rule ≡ true → Like e c
      → Like (tested now t r e) (tested now t (renum n r) c)
  unfolding tested next_step
  tested_like now Yes r n e c i h = View.l_add in_e in_a h (next_step now r)
  tested_like now No r n e c i h = finish_like now r n e c i h
  tested_like now Unknown r n e c i h = finish_like now r n _ _ i (View.l_uncertain in_e in_a h _ _)

  tested_out : (now : ℕ) (t : Truth) (r : Run) (e : Engine) → in_a r.key.rule ≡ false → Like (tested now t r e) e
  unfolding tested
  tested_out now Yes r e i = next_out now r e i
  tested_out now No r e i = finish_out now r e i
  tested_out now Unknown r e i = View.like_trans in_e in_a (finish_out now r _ i) (View.o_uncertain in_e in_a e _)

  select_same : (t : Moment) (bs : Branches) (d : Actions) (l l' : List Cell)
      → all in_e (flat (flat predicate_reads) (conditions_of bs)) ≡ true
      → keep (View.cone_cell in_e in_a) l ≡ keep (View.cone_cell in_e in_a) l' → select t bs d l ≡ select t bs d l'
  unfolding select conditions_of flat
  select_same t no_branch d l l' k s = refl
  select_same t (branch ps as' bs) d l l' k s =
      go (View.same_truths in_e in_a l l' s t ps
      (all_l in_e (flat predicate_reads ps) (flat (flat predicate_reads) (conditions_of bs)) k))
      (select_same t bs d l l' (all_r in_e (flat predicate_reads ps) (flat (flat predicate_reads) (conditions_of bs)) k) s)
    where
      go : {v v' : Truth} → v ≡ v' → {o o' : Option Actions} → o ≡ o'
          → ◌≡◌ {A = Option Actions} (elim v [ Yes ↦ some as' | No ↦ o | Unknown ↦ none ])
          (elim v' [ Yes ↦ some as' | No ↦ o' | Unknown ↦ none ])
      go p q = λ i. elim (p i) [ Yes ↦ some as' | No ↦ q i | Unknown ↦ none ]

  chosen_like : (now : ℕ) (o : Option Actions) (src : Source) (r : Run) (n : ℕ) (e c : Engine)
      → in_a r.key.rule ≡ true → Like e c
      → Like (chosen now o src r e) (chosen now o src (renum n r) c)
  unfolding chosen next_step boundary
  chosen_like now none src r n e c i h = finish_like now r n _ _ i (View.l_uncertain in_e in_a h _ _)
  chosen_like now (some as') src r n e c i h =
      View.l_add in_e in_a (quiet_act now Kind.choose src r n _ _ refl
      (store_like (left (as' then r.actions) r) n e c h)) (next_step now r)

  chosen_out : (now : ℕ) (o : Option Actions) (src : Source) (r : Run) (e : Engine) → in_a r.key.rule ≡ false
      → Like (chosen now o src r e) e
  unfolding chosen boundary
  chosen_out now none src r e i = View.like_trans in_e in_a (finish_out now r _ i) (View.o_uncertain in_e in_a e _)
  chosen_out now (some as') src r e i =
      View.like_trans in_e in_a (next_out now r _ i)
      (View.like_trans in_e in_a (out_act now Kind.choose src r _ refl) (store_out (left (as' then r.actions) r) e i))

  item_out : (at : ℕ) (w : Work) (e : Engine) → View.cone_work in_e in_a w ≡ false
      → Like (add (record { at = at; work = w }) e) e
  item_out at w e i = View.o_add in_e in_a e (record { at = at; work = w }) (unfold View.cone_item in i)

  wait_like : (now : ℕ) (t : Trigger) (s : ℕ) (k : Bool) (src : Source) (r : Run) (n : ℕ) (e c : Engine)
      → in_a r.key.rule ≡ true → Like e c
      → Like (begin_wait now t s k src r e) (begin_wait now t s k src (renum n r) c)
  unfolding begin_wait boundary
  wait_like now t s k src r n e c i h =
      View.like_if in_e in_a (absent t.note)
      (quiet_act now (Kind.wait s) src r n _ _ refl
      (View.l_add in_e in_a (store_like
      (waits (some (record { trigger = t; deadline = now + s; continue = k; source = src })) r) n e c h)
      (record { at = now + s; work = Work.timeout r.key })))
      (finish_like now r n _ _ i (View.l_uncertain in_e in_a h unsupported_wait unsupported_wait))

  wait_out : (now : ℕ) (t : Trigger) (s : ℕ) (k : Bool) (src : Source) (r : Run) (e : Engine)
      → in_a r.key.rule ≡ false → Like (begin_wait now t s k src r e) e
  unfolding begin_wait boundary View.cone_work
  wait_out now t s k src r e i =
      View.like_if_out in_e in_a (absent t.note)
      (View.like_trans in_e in_a (out_act now (Kind.wait s) src r _ refl)
      (View.like_trans in_e in_a (item_out (now + s) (Work.timeout r.key) _ i)
      (store_out (waits (some (record { trigger = t; deadline = now + s; continue = k; source = src })) r) e i)))
      (View.like_trans in_e in_a (finish_out now r _ i) (View.o_uncertain in_e in_a e unsupported_wait))

  perform_like : (now : ℕ) (f : Effect) (src : Source) (r : Run) (n : ℕ) (e c : Engine) → in_a r.key.rule ≡ true
      → fine true (record { source = src; effect = f }) ≡ true → Like e c
      → Like (perform now f src r e) (perform now f src (renum n r) c)
  unfolding perform fine effect_reads toggles all next_step go_on_after boundary
  perform_like now (Effect.set x v) src r n e c i g h =
      View.l_add in_e in_a (write_like now x v src r n e c h) (next_step now r)
  perform_like now (toggle x) src r n e c i g h =
      View.l_add in_e in_a (flip_like now x src r n e c (and_l (in_e x) true g) h) (next_step now r)
  perform_like now (delay m) src r n e c i g h = View.l_add in_e in_a (quiet_act now (Kind.delay m) src r n e c refl h)
      (record { at = now + m; work = Work.resume r.key })
  perform_like now (condition p) src r n e c i g h =
      rw (← (View.like_truth in_e in_a now h p (and_l (all in_e (predicate_reads p)) true g)))
      (tested_like now (evaluate (moment now e) p e.cells) r n _ _ i
      (quiet_act now (Kind.condition (evaluate (moment now e) p e.cells)) src r n e c refl h))
  perform_like now (choose bs d) src r n e c i g h =
      rw (← (select_same (moment now e) bs d e.cells c.cells
      (and_l (all in_e (flat (flat predicate_reads) (conditions_of bs))) true g) h.of_cells
      ∙ ap (λ (o : Moment). select (moment_after o now) bs d c.cells) h.of_start))
      (chosen_like now (select (moment now e) bs d e.cells) src r n e c i h)
  perform_like now (wait t s k) src r n e c i g h = wait_like now t s k src r n e c i h
  perform_like now (Effect.unknown reason) src r n e c i g h =
      finish_like now r n _ _ i (quiet_act now (Kind.unknown reason) src r n _ _ refl
      (View.l_uncertain in_e in_a h reason reason))

  perform_out : (now : ℕ) (f : Effect) (src : Source) (r : Run) (e : Engine) → in_a r.key.rule ≡ false
      → fine false (record { source = src; effect = f }) ≡ true
      → Like (perform now f src r e) e
  unfolding perform fine out_write Touches.write absent_or go_on_after boundary View.cone_work
  perform_out now (Effect.set x v) src r e i g =
      View.like_trans in_e in_a (next_out now r _ i) (write_out now x v src r e (not-true (in_e x) g))
  perform_out now (toggle x) src r e i g =
      View.like_trans in_e in_a (next_out now r _ i) (flip_out now x src r e (not-true (in_e x) g))
  perform_out now (delay m) src r e i g = View.like_trans in_e in_a (item_out (now + m) (Work.resume r.key) _ i)
      (out_act now (Kind.delay m) src r e refl)
  perform_out now (condition p) src r e i g =
      View.like_trans in_e in_a (tested_out now (evaluate (moment now e) p e.cells) r _ i)
      (out_act now (Kind.condition (evaluate (moment now e) p e.cells)) src r e refl)
  perform_out now (choose bs d) src r e i g = chosen_out now (select (moment now e) bs d e.cells) src r e i
  perform_out now (wait t s k) src r e i g = wait_out now t s k src r e i
  perform_out now (Effect.unknown reason) src r e i g =
      View.like_trans in_e in_a (finish_out now r _ i)
      (View.like_trans in_e in_a (out_act now (Kind.unknown reason) src r _ refl) (View.o_uncertain in_e in_a e reason))

  go_on_like : (now : ℕ) (l : Actions) (r : Run) (n : ℕ) (e c : Engine) → in_a r.key.rule ≡ true
      → fine_acts true l ≡ true → Like e c → Like (go_on now l r e) (go_on now l (renum n r) c)
  unfolding go_on fine_acts walk all
  go_on_like now done r n e c i g h = finish_like now r n e c i h
  go_on_like now (act src f rest) r n e c i g h =
      perform_like now f src (left rest r) n _ _ i
      (and_l (fine true (record { source = src; effect = f })) (all (fine true) (within f ++ walk rest)) g)
      (store_like (left rest r) n e c h)

  go_on_out : (now : ℕ) (l : Actions) (r : Run) (e : Engine) → in_a r.key.rule ≡ false → fine_acts false l ≡ true
      → Like (go_on now l r e) e
  unfolding go_on fine_acts walk all
  go_on_out now done r e i g = finish_out now r e i
  go_on_out now (act src f rest) r e i g =
      View.like_trans in_e in_a (perform_out now f src (left rest r) _ i
      (and_l (fine false (record { source = src; effect = f })) (all (fine false) (within f ++ walk rest)) g))
      (store_out (left rest r) e i)

  run_bare : (k : Key) (x : Run) → same_run k (bare x) ≡ same_run k x
  unfolding same_run bare
  run_bare k x = refl

  -- a run that is found is good for its automation
  found_rule : (k : Key) (l : List Run) (r : Run) → find (same_run k) l ≡ some r → in_a r.key.rule ≡ in_a k.rule
  found_rule k l r e = ap in_a (View.run_rule in_e in_a k r (found_is (same_run k) l r e))

  found_fine : (k : Key) (b : Bool) (l : List Run) (r : Run) → in_a k.rule ≡ b → Every good_run l
      → find (same_run k) l ≡ some r → fine_acts b r.actions ≡ true
  unfolding good_run
  found_fine k b l r i g e =
      rw (found_rule k l r e ∙ i) at
      (and_l (fine_acts (in_a r.key.rule) r.actions) (ok_wait (in_a r.key.rule) r.waiting)
      (every_find good_run (same_run k) l r g e))

  resume_like : (now : ℕ) (k : Key) (e c : Engine) → in_a k.rule ≡ true → Every good_run e.runs → Like e c
      → Like (resume now k e) (resume now k c)
  unfolding resume if_some step
  resume_like now k e c i g h =
      go (View.find_pair in_e in_a (same_run k) (View.is_run_in in_e in_a k i) (run_bare k) e.runs c.runs
      h.of_runs) (λ r p. found_fine k true e.runs r i g p) (λ r p. found_rule k e.runs r p ∙ i)
    where
      go : {o o' : Option Run} → Found o o' → ((r : Run) → o ≡ some r → fine_acts true r.actions ≡ true)
          → ((r : Run) → o ≡ some r → in_a r.key.rule ≡ true)
          → Like (if_some (step now) o e)
          (if_some (step now) o' c)
      go neither q j = h
      go (both r n) q j = View.like_if in_e in_a (r.queued || not (absent r.waiting)) h
          (go_on_like now r.actions r n e c (j r refl) (q r refl) h)

  resume_out : (now : ℕ) (k : Key) (e : Engine) → in_a k.rule ≡ false → Every good_run e.runs → Like (resume now k e) e
  unfolding resume if_some step
  resume_out now k e i g = go (find (same_run k) e.runs) (λ r p. found_fine k false e.runs r i g p)
      (λ r p. found_rule k e.runs r p ∙ i)
    where
      go : (o : Option Run) → ((r : Run) → o ≡ some r → fine_acts false r.actions ≡ true)
          → ((r : Run) → o ≡ some r → in_a r.key.rule ≡ false)
          → Like (if_some (step now) o e) e
      go none q j = View.like_refl in_e in_a
      go (some r) q j = View.like_if_out in_e in_a (r.queued || not (absent r.waiting)) (View.like_refl in_e in_a)
          (go_on_out now r.actions r e (j r refl) (q r refl))

  -- ---- the other work

  over_like : (now : ℕ) (w : Waiting) (r : Run) (n : ℕ) (e c : Engine) → in_a r.key.rule ≡ true → Like e c
      → Like (wait_over now w r e) (wait_over now w (renum n r) c)
  unfolding wait_over boundary next_step
  over_like now w r n e c i h =
      let t : Like (log_action now (Kind.timeout w.continue) w.source r e)
      (log_action now (Kind.timeout w.continue) w.source (renum n r) c) =
      quiet_act now (Kind.timeout w.continue) w.source r n e c refl h in
      View.like_if in_e in_a (eqb w.deadline now)
      (View.like_if in_e in_a w.continue (View.l_add in_e in_a (store_like (waits none r) n _ _ t) (next_step now r))
      (finish_like now r n _ _ i t))
      h

  over_out : (now : ℕ) (w : Waiting) (r : Run) (e : Engine) → in_a r.key.rule ≡ false → Like (wait_over now w r e) e
  unfolding wait_over boundary
  over_out now w r e i =
      let t : Like (log_action now (Kind.timeout w.continue) w.source r e) e =
      out_act now (Kind.timeout w.continue) w.source r e refl in
      View.like_if_out in_e in_a (eqb w.deadline now)
      (View.like_if_out in_e in_a w.continue
      (View.like_trans in_e in_a (next_out now r _ i) (View.like_trans in_e in_a (store_out (waits none r) _ i) t))
      (View.like_trans in_e in_a (finish_out now r _ i) t))
      (View.like_refl in_e in_a)

  time_like : (now : ℕ) (k : Key) (e c : Engine) → in_a k.rule ≡ true → Like e c
      → Like (time_out now k e) (time_out now k c)
  unfolding time_out if_some end_wait
  time_like now k e c i h =
      go (View.find_pair in_e in_a (same_run k) (View.is_run_in in_e in_a k i) (run_bare k) e.runs c.runs
      h.of_runs) (λ r p. found_rule k e.runs r p ∙ i)
    where
      go : {o o' : Option Run} → Found o o' → ((r : Run) → o ≡ some r → in_a r.key.rule ≡ true)
          → Like (if_some (end_wait now) o e)
          (if_some (end_wait now) o' c)
      go neither j = h
      go (both r n) j = by r.waiting
        where
          by : (w : Option Waiting) → Like (if_some (λ w. wait_over now w r) w e)
              (if_some (λ w. wait_over now w (renum n r)) w c)
          by none = h
          by (some w) = over_like now w r n e c (j r refl) h

  time_out_out : (now : ℕ) (k : Key) (e : Engine) → in_a k.rule ≡ false → Like (time_out now k e) e
  unfolding time_out if_some end_wait
  time_out_out now k e i = go (find (same_run k) e.runs) (λ r p. found_rule k e.runs r p ∙ i)
    where
      go : (o : Option Run) → ((r : Run) → o ≡ some r → in_a r.key.rule ≡ false)
          → Like (if_some (end_wait now) o e) e
      go none j = View.like_refl in_e in_a
      go (some r) j = by r.waiting
        where
          by : (w : Option Waiting) → Like (if_some (λ w. wait_over now w r) w e) e
          by none = View.like_refl in_e in_a
          by (some w) = over_out now w r e (j r refl)

  expire_like : (now n : ℕ) (d : Cell) (e c : Engine) → Like e c → Like (expire now n d e) (expire now n d c)
  unfolding expire log
  expire_like now n d e c h =
      View.like_if in_e in_a (eqb d.version n && not (eq_t d.value (text "unknown")))
      (View.l_add in_e in_a (View.l_append in_e in_a
      (View.l_with_cells in_e in_a h _ _
      (View.same_put in_e in_a e.cells c.cells h.of_cells d.name (text "unknown") 0)) _ _ refl) _)
      h

  expire_out : (now n : ℕ) (d : Cell) (e : Engine) → in_e d.name ≡ false → Like (expire now n d e) e
  unfolding expire log at_once boundary View.cone_work
  expire_out now n d e i =
      View.like_if_out in_e in_a (eqb d.version n && not (eq_t d.value (text "unknown")))
      (View.like_trans in_e in_a (item_out now (Work.changed d.name d.value (text "unknown")) _ i)
      (View.like_trans in_e in_a (View.o_append in_e in_a _ _ (trace_out now Kind.stale none none _ refl i))
      (View.o_with_cells in_e in_a e _ (View.put_out in_e in_a d.name (text "unknown") 0 i e.cells))))
      (View.like_refl in_e in_a)

  stale_like : (now : ℕ) (x : Text) (n : ℕ) (e c : Engine) → in_e x ≡ true → Like e c
      → Like (go_stale now x n e) (go_stale now x n c)
  unfolding go_stale if_some
  stale_like now x n e c i h =
      go (cell_of x e.cells) (cell_of x c.cells) (View.same_cell in_e in_a e.cells c.cells h.of_cells x i)
    where
      by : (o : Option Cell) → Like (if_some (expire now n) o e) (if_some (expire now n) o c)
      by none = h
      by (some d) = expire_like now n d e c h

      go : (o o' : Option Cell) → o ≡ o' → Like (if_some (expire now n) o e) (if_some (expire now n) o' c)
      go o o' p = subst (λ (z : Option Cell). Like (if_some (expire now n) o e) (if_some (expire now n) z c)) p (by o)

  stale_out : (now : ℕ) (x : Text) (n : ℕ) (e : Engine) → in_e x ≡ false → Like (go_stale now x n e) e
  unfolding go_stale if_some
  stale_out now x n e i = go (cell_of x e.cells) (View.cell_name in_e in_a x e.cells)
    where
      go : (o : Option Cell) → ((d : Cell) → o ≡ some d → d.name ≡ x) → Like (if_some (expire now n) o e) e
      go none k = View.like_refl in_e in_a
      go (some d) k = expire_out now n d e (ap in_e (k d refl) ∙ i)

  drop_like : (now : ℕ) (e c : Engine) → Like e c → Like (drop_runs now e) (drop_runs now c)
  unfolding drop_runs boundary
  drop_like now e c h = quiet now now Kind.restart Kind.restart none none none none _ _ refl refl
      (View.l_with_runs in_e in_a h [] [] refl)

  pub process_in : (now : ℕ) (rules : List Automation) (w : Work) (e c : Engine) → Every good_rule rules
      → Every good_run e.runs → View.cone_work in_e in_a w ≡ true → Like e c
      → Like (process now rules w e) (process now (keep (View.cone_rule in_e in_a) rules) w c)
  unfolding process View.cone_work View.cone_input trigger boundary
  process_in now rules (Work.external (Input.set x v)) e c g g' i h = update_like now x v none none Kind.external e c refl h
  process_in now rules (Work.external Input.restart) e c g g' i h = drop_like now e c h
  process_in now rules (Work.external reload) e c g g' i h = drop_like now e c h
  process_in now rules (Work.changed x from to) e c g g' i h =
      offers_like now x from to rules _ _ g (wake_like now x from to e c h)
  process_in now rules (Work.resume k) e c g g' i h = resume_like now k e c i g' h
  process_in now rules (Work.timeout k) e c g g' i h = time_like now k e c i h
  process_in now rules (Work.stale x n) e c g g' i h = stale_like now x n e c i h

  pub process_out : (now : ℕ) (rules : List Automation) (w : Work) (e : Engine) → Every good_rule rules
      → Every good_run e.runs → View.cone_work in_e in_a w ≡ false
      → Like (process now rules w e) e
  unfolding process View.cone_work View.cone_input trigger boundary
  process_out now rules (Work.external (Input.set x v)) e g g' i = update_out now x v none none Kind.external e i refl
  process_out now rules (Work.external Input.restart) e g g' i = absurd (true≢false i)
  process_out now rules (Work.external reload) e g g' i = absurd (true≢false i)
  process_out now rules (Work.changed x from to) e g g' i =
      View.like_trans in_e in_a (offers_out now x from to i rules _ g) (wake_out now x from to e i g')
  process_out now rules (Work.resume k) e g g' i = resume_out now k e i g'
  process_out now rules (Work.timeout k) e g g' i = time_out_out now k e i
  process_out now rules (Work.stale x n) e g g' i = stale_out now x n e i
