-- The invariant of the modes: an automation's runs are as many as its mode and `max` allow, and stand in order.
-- It holds at the start of a simulation, and every operation of the engine keeps it.
use Rattle.std.specs.Prelude.{if◌then◌else◌}
use Prim.Native.Nat.{ℕ, zero, suc, ◌+◌, ◌≤◌, ◌<◌}
use mathlib.Core.Path.{◌≡◌, refl, sym, ap, ◌∙◌, subst}
use mathlib.Core.Bool.{Bool, true, false, not, ◌&&◌, ◌||◌, true≢false, false≢true}
use mathlib.Core.List.{List, [], ◌∷◌, ◌++◌}
use mathlib.Core.Option.{Option, none, some}
use native.Mathlib.Omega.{arith}
use lib.Dec.{leb, eqb}
use Rattle.texts.specs.Lists.{absent, any, keep, find, tally, each, flat, through}
use Rattle.texts.specs.Texts.{Text, text, eq_t}
use Rattle.model_spec.specs.Validate.{undecided}
use Rattle.model_spec.specs.Model.{
  Source,
  Moment,
  Mode,
  single,
  queued,
  parallel,
  Effect,
  toggle,
  delay,
  condition,
  choose,
  wait,
  Actions,
  done,
  act,
  Automation,
  Input,
  reload,
  Event,
}
use Rattle.engine_spec.specs.Cells.{Cell, cell_of, value_of, put}
use Rattle.engine_spec.specs.Kleene.{Truth, Yes, No, Unknown}
use Rattle.engine_spec.specs.Truth.{evaluate, evaluate_all, matches}
use Rattle.engine_spec.specs.Modes.{
  Decision,
  already_running,
  max_reached,
  start,
  stop_and_start,
  wait_in_line,
  decide,
  most,
  most_executing,
}
use Rattle.engine_spec.specs.Records.{Key, Waiting, Run, Work, Item, Kind, Areas, Engine}
use Rattle.engine_spec.specs.Changes.{if_some, with_cells, add, append, with_runs, add_run, uncertain, adds}
use Rattle.engine_spec.specs.Engine.{
  same_run,
  of_rule,
  other_run,
  of_other_rule,
  queued_for,
  executing,
  in_place,
  store,
  left,
  waits,
  released,
  fresh_run,
  awaits,
  woken,
  toggled,
  ◌then◌,
  select,
  moment,
  next_step,
  log,
  log_rule,
  log_action,
  expiry,
  expiry_of,
  change_of,
  update,
  let_go,
  release,
  finish,
  wake,
  begin,
  carry_out,
  admit,
  offer,
  trigger,
  go_on_after,
  write,
  flip,
  tested,
  chosen,
  begin_wait,
  perform,
  go_on,
  step,
  resume,
  wait_over,
  end_wait,
  time_out,
  expire,
  go_stale,
  drop_runs,
  process,
  Ended,
  event_item,
  begun,
  last_record,
  closed,
}
use Rattle.engine_spec.proofs.Lists.{
  Case,
  is_true,
  is_false,
  case,
  if_prop,
  and_l,
  or_no,
  leb_no,
  eq_t_eq,
  eq_t_same,
  one,
  tally_same,
  tally_end,
  tally_found,
  tally_each,
  Each,
  each_keep,
  each_to,
  each_weak,
  each_end,
  each_found,
  found_is,
}
use Rattle.engine_spec.proofs.Runs.{
  own_key,
  kept_key,
  Later,
  InOrder,
  order_keep,
  order_each,
  order_end,
  Fit,
  goes,
  fewer,
  all_out,
  rules_store,
  executing_store,
  executing_more,
  executing_other,
  executing_less,
  fewer_execute,
  goes_store,
}

-- ---- what a decision wants: room for the run that it starts or queues

-- of an automation with n runs, of which x execute, where at most m may be and at most k may execute
abbrev pub Allows : Decision → (m k n x : ℕ) → Type 0
Allows already_running m k n x = Unit {0}
Allows max_reached m k n x = Unit {0}
Allows start m k n x = (n + 1 ≤ m) × (x + 1 ≤ k)
Allows stop_and_start m k n x = (1 ≤ m) × (1 ≤ k)
Allows wait_in_line m k n x = n + 1 ≤ m

pub decide_allows : (mode : Mode) (max n x : ℕ) → x ≤ n
    → Allows (decide mode max n) (most mode max) (most_executing mode max) n x
unfolding decide most most_executing
decide_allows single max zero x h = (omega arith, omega arith)
decide_allows single max (suc n) x h = tt
decide_allows Mode.restart max zero x h = (omega arith, omega arith)
decide_allows Mode.restart max (suc n) x h = (omega arith, omega arith)
decide_allows queued max zero x h =
    if_prop (λ (d : Decision). Allows d max 1 zero x) (leb max zero) (λ e. tt) (λ e. (leb_no max zero e, omega arith))
decide_allows queued max (suc n) x h =
    if_prop (λ (d : Decision). Allows d max 1 (suc n) x) (leb max (suc n)) (λ e. tt) (λ e. leb_no max (suc n) e)
decide_allows parallel max n x h =
    if_prop (λ (d : Decision). Allows d max max n x) (leb max n) (λ e. tt)
    (λ e. (leb_no max n e, omega (arith, leb_no max n e)))

-- ---- the invariant

-- the automation's runs are as many as its mode and `max` allow
pub record Within (a : Automation) (runs : List Run) : Type 0 where
  pub bound : tally (of_rule a.id) runs ≤ most a.mode a.max
  pub at_once : tally (executing a.id) runs ≤ most_executing a.mode a.max

-- and all runs stand in order, each fit; runs are made of known automations only
pub record Kept (known : Text → Bool) (a : Automation) (runs : List Run) (made : List Text) : Type 0 where
  pub order : InOrder runs
  pub fit : Each (Fit made) runs
  pub from : Each (λ t. known t ≡ true) made
  pub within : Within a runs

-- what isn't about runs leaves runs alone
module _ (P : List Run → List Text → Type 0) where
  abbrev pub Has : Engine → Type 0
  Has e = P e.runs e.made

  pub q_adds : (l : List Item) (e : Engine) → Has e → Has (adds l e)
  unfolding adds through add
  q_adds [] e h = h
  q_adds (i ∷ l) e h = q_adds l (add i e) h

  pub q_update : (now : ℕ) (x v : Text) (id : Option Text) (src : Option Source) (k : Kind) (e : Engine) → Has e
      → Has (update now x v id src k e)
  unfolding update log append with_cells
  q_update now x v id src k e h =
      q_adds (change_of now x (value_of x e.cells) v) _
      (q_adds (expiry_of now (cell_of x (put x v 1 e.cells))) (with_cells (put x v 1 e.cells) e) h)

  pub q_flip : (now : ℕ) (x : Text) (src : Source) (r : Run) (e : Engine) → Has e → Has (flip now x src r e)
  unfolding flip write uncertain
  q_flip now x src r e h =
      if_prop Has (undecided (value_of x e.cells)) (λ _. h)
      (λ _. q_update now x (toggled (value_of x e.cells)) (some r.key.rule) (some src) Kind.action e h)

-- the automations' identifiers
unfoldable pub known_in : List Automation → Text → Bool
known_in rules t = any (λ r. eq_t t r.id) rules

-- the model has no other automation with a's identifier
abbrev pub Only : Automation → List Automation → Type 0
Only a = Each (λ r. r.id ≡ a.id → r ≡ a)

abbrev pub Knows : (Text → Bool) → List Automation → Type 0
Knows known = Each (λ r. known r.id ≡ true)

module _ (known : Text → Bool) (a : Automation) where
  abbrev pub K : Engine → Type 0
  K e = Kept known a e.runs e.made

  -- the run with this key executes
  abbrev pub Going : Key → Engine → Type 0
  Going k e = 1 ≤ tally (goes k) e.runs

  -- ---- primitives

  fit_store : (made : List Text) (r : Run) → (r.queued ≡ true → absent r.waiting ≡ true) → (x : Run) → Fit made x
      → Fit made (in_place r x)
  fit_store made r q x f = record {
    old = subst (λ (k : Key). k.sequence < tally (eq_t k.rule) made) (sym (kept_key r x)) f.old;
    rests =
        unfold in_place in (if_prop (λ (y : Run). y.queued ≡ true → absent y.waiting ≡ true) (same_run r.key x)
        (λ _. q) (λ _. f.rests));
  }

  k_store : (r : Run) (e : Engine) → r.queued ≡ false → Going r.key e → K e → K (store r e)
  unfolding store with_runs
  k_store r e q g k = record {
    order = order_each (in_place r) (kept_key r) e.runs k.order;
    fit =
        each_to (Fit e.made) (Fit e.made) (in_place r)
        (fit_store e.made r (λ t. absurd (true≢false (sym t ∙ q)))) e.runs k.fit;
    from = k.from;
    within = record {
      bound = omega (arith, rules_store a.id r e.runs, k.within.bound);
      at_once = omega (arith, executing_store a.id r e.runs k.order g, k.within.at_once);
    };
  }

  g_store : (r : Run) (e : Engine) → r.queued ≡ false → Going r.key e → Going r.key (store r e)
  unfolding store with_runs
  g_store r e q g = omega (arith, goes_store r.key r e.runs q)

  -- ---- ends of runs

  k_release : (now : ℕ) (id : Text) (e : Engine) → InOrder e.runs → Each (Fit e.made) e.runs
      → Each (λ t. known t ≡ true) e.made
      → tally (of_rule a.id) e.runs ≤ most a.mode a.max
      → tally (executing a.id) e.runs + one (eq_t id a.id) ≤ most_executing a.mode a.max
      → K (release now id e)
  unfolding release if_some
  k_release now id e o f c b x = go (find (queued_for id) e.runs) refl
    where
      go : (s : Option Run) → find (queued_for id) e.runs ≡ s → K (if_some (let_go now) s e)
      go none p = record { order = o; fit = f; from = c; within = record { bound = b; at_once = omega arith } }
      go (some r) p = unfold let_go add store with_runs in (record {
        order = order_each (in_place (released r)) (kept_key (released r)) e.runs o;
        fit =
            each_to (Fit e.made) (Fit e.made) (in_place (released r))
            (fit_store e.made (released r) (λ t. absurd (false≢true t))) e.runs f;
        from = c;
        within = record {
          bound = omega (arith, rules_store a.id (released r) e.runs, b);
          at_once = by (case (eq_t id a.id));
        };
      })
        where
          rule_is : r.key.rule ≡ id
          rule_is = unfold queued_for of_rule in (eq_t_eq _ _ (and_l _ r.queued (found_is (queued_for id) e.runs r p)))

          by : Case (eq_t id a.id)
              → tally (executing a.id) (each (in_place (released r)) e.runs) ≤ most_executing a.mode a.max
          by (is_true t) =
              let y : tally (executing a.id) e.runs + 1 ≤ most_executing a.mode a.max = rw t at x in
              omega (arith, executing_more a.id (released r) e.runs o)
          by (is_false t) =
              omega (
                arith,
                x,
                executing_other a.id (released r) e.runs
                    (ap (λ (z : Text). eq_t z a.id) rule_is ∙ t),
              )

  k_finish : (now : ℕ) (r : Run) (e : Engine) → Going r.key e → K e → K (finish now r e)
  unfolding finish log_rule log append with_runs
  k_finish now r e g k =
      k_release now r.key.rule _ (order_keep (other_run r.key) e.runs k.order)
      (each_keep (Fit e.made) (other_run r.key) e.runs k.fit) k.from
      (omega (arith, fewer (of_rule a.id) (other_run r.key) e.runs, k.within.bound))
      (by (case (eq_t r.key.rule a.id)))
    where
      by : Case (eq_t r.key.rule a.id)
          → tally (executing a.id) (keep (other_run r.key) e.runs) + one (eq_t r.key.rule a.id) ≤
          most_executing a.mode a.max
      by (is_true t) = rw t (omega (arith, executing_less a.id r.key e.runs t g, k.within.at_once))
      by (is_false t) =
          rw t (omega (arith, fewer (executing a.id) (other_run r.key) e.runs, k.within.at_once))

  -- ---- a change

  same_woken : {B : Type 0} (f : Run → B) (x from to : Text) → ((r : Run) → f (waits none r) ≡ f r) → (r : Run)
      → f (woken x from to r) ≡ f r
  unfolding woken
  same_woken f x from to h r = if_prop (λ (y : Run). f y ≡ f r) (awaits x from to r) (λ _. h r) (λ _. refl)

  pub k_wake : (now : ℕ) (x from to : Text) (e : Engine) → K e → K (wake now x from to e)
  unfolding wake with_runs
  k_wake now x from to e k =
      q_adds (Kept known a) (each (next_step now) (keep (awaits x from to) e.runs))
      (with_runs (each (woken x from to) e.runs) e) (record {
        order = order_each (woken x from to) (same_woken (λ r. r.key) x from to (λ r. refl)) e.runs k.order;
        fit = each_to (Fit e.made) (Fit e.made) (woken x from to) fits e.runs k.fit;
        from = k.from;
        within = record {
          bound =
              subst (λ (n : ℕ). n ≤ most a.mode a.max)
              (sym (same (of_rule a.id) (λ r. unfold of_rule in refl))) k.within.bound;
          at_once =
              subst (λ (n : ℕ). n ≤ most_executing a.mode a.max)
              (sym (same (executing a.id) (λ r. unfold executing of_rule in refl))) k.within.at_once;
        };
      })
    where
      same : (p : Run → Bool) → ((r : Run) → p (waits none r) ≡ p r)
          → tally p (each (woken x from to) e.runs) ≡ tally p e.runs
      same p h = tally_each p (woken x from to) e.runs ∙ tally_same _ p (same_woken p x from to h) e.runs

      fits : (r : Run) → Fit e.made r → Fit e.made (woken x from to r)
      fits r f = unfold woken in
          (if_prop (Fit e.made) (awaits x from to r)
          (λ _. record { old = f.old; rests = λ _. unfold absent in refl }) (λ _. f))

  -- a new run, if there is room for it
  k_begin : (now : ℕ) (r : Automation) (later : Bool) (e : Engine) → known r.id ≡ true → InOrder e.runs
      → Each (Fit e.made) e.runs
      → Each (λ t. known t ≡ true) e.made
      → tally (of_rule a.id) e.runs + one (eq_t r.id a.id) ≤ most a.mode a.max
      → tally (executing a.id) e.runs + one (eq_t r.id a.id && not later) ≤ most_executing a.mode a.max
      → K (begin now r later e)
  unfolding begin log_rule log append add_run fresh_run
  k_begin now r later e i o f c b x =
      q_adds (Kept known a) (if later then [] else next_step now new ∷ []) _ (record {
        order = order_end e.runs new o (each_weak (Fit e.made) (λ y. Later y new) before e.runs f);
        fit =
            each_end (Fit (e.made ++ r.id ∷ [])) e.runs new
            (each_weak (Fit e.made) (Fit (e.made ++ r.id ∷ [])) older e.runs f) fits;
        from = each_end (λ t. known t ≡ true) e.made r.id c i;
        within = record {
          bound = rw (tally_end (of_rule a.id) e.runs new) (unfold of_rule fresh_run in b);
          at_once = rw (tally_end (executing a.id) e.runs new) (unfold executing of_rule fresh_run in x);
        };
      })
    where
      new : Run
      new = fresh_run r later e.made

      before : (y : Run) → Fit e.made y → Later y new
      before y h = unfold fresh_run in (λ p. subst (λ (z : Text). y.key.sequence < tally (eq_t z) e.made) p h.old)

      older : (y : Run) → Fit e.made y → Fit (e.made ++ r.id ∷ []) y
      older y h =
          record { old = omega (arith, h.old, tally_end (eq_t y.key.rule) e.made r.id); rests = h.rests }

      fits : Fit (e.made ++ r.id ∷ []) new
      fits = unfold fresh_run in (record {
        old = omega (arith, tally_end (eq_t r.id) e.made r.id, ap one (eq_t_same r.id));
        rests = λ _. unfold absent in refl;
      })

  -- what the page says of a trigger, carried out
  k_carry : (now : ℕ) (d : Decision) (r : Automation) (e : Engine) → known r.id ≡ true
      → (eq_t r.id a.id ≡ true → Allows d (most a.mode a.max) (most_executing a.mode a.max)
      (tally (of_rule a.id) e.runs) (tally (executing a.id) e.runs))
      → K e → K (carry_out now d r e)
  unfolding carry_out log_rule log append with_runs
  k_carry now already_running r e i h k = k
  k_carry now max_reached r e i h k = k
  k_carry now start r e i h k =
      k_begin now r false e i k.order k.fit k.from (by (case (eq_t r.id a.id)))
      (by' (case (eq_t r.id a.id)))
    where
      by : Case (eq_t r.id a.id)
          → tally (of_rule a.id) e.runs + one (eq_t r.id a.id) ≤ most a.mode a.max
      by (is_true t) = rw t (h t).0
      by (is_false t) = rw t (omega (arith, k.within.bound))

      by' : Case (eq_t r.id a.id)
          → tally (executing a.id) e.runs + one (eq_t r.id a.id && true) ≤ most_executing a.mode a.max
      by' (is_true t) = rw t (h t).1
      by' (is_false t) = rw t (omega (arith, k.within.at_once))
  k_carry now stop_and_start r e i h k =
      k_begin now r false _ i (order_keep (of_other_rule r.id) e.runs k.order)
      (each_keep (Fit e.made) (of_other_rule r.id) e.runs k.fit) k.from
      (by (case (eq_t r.id a.id))) (by' (case (eq_t r.id a.id)))
    where
      kept : List Run
      kept = keep (of_other_rule r.id) e.runs

      gone : eq_t r.id a.id ≡ true → tally (of_rule a.id) kept ≡ 0
      gone t =
          subst (λ (z : Text). tally (of_rule a.id) (keep (of_other_rule z) e.runs) ≡ 0) (sym (eq_t_eq _ _ t))
          (all_out a.id e.runs)

      by : Case (eq_t r.id a.id)
          → tally (of_rule a.id) kept + one (eq_t r.id a.id) ≤ most a.mode a.max
      by (is_true t) = rw t (omega (arith, gone t, (h t).0))
      by (is_false t) =
          rw t (omega (arith, fewer (of_rule a.id) (of_other_rule r.id) e.runs, k.within.bound))

      by' : Case (eq_t r.id a.id)
          → tally (executing a.id) kept + one (eq_t r.id a.id && true) ≤ most_executing a.mode a.max
      by' (is_true t) = rw t (omega (arith, gone t, fewer_execute a.id kept, (h t).1))
      by' (is_false t) =
          rw t (omega (arith, fewer (executing a.id) (of_other_rule r.id) e.runs, k.within.at_once))
  k_carry now wait_in_line r e i h k =
      k_begin now r true e i k.order k.fit k.from (by (case (eq_t r.id a.id))) (by' (eq_t r.id a.id))
    where
      by : Case (eq_t r.id a.id)
          → tally (of_rule a.id) e.runs + one (eq_t r.id a.id) ≤ most a.mode a.max
      by (is_true t) = rw t (h t)
      by (is_false t) = rw t (omega (arith, k.within.bound))

      by' : (b : Bool) → tally (executing a.id) e.runs + one (b && false) ≤ most_executing a.mode a.max
      by' true = omega (arith, k.within.at_once)
      by' false = omega (arith, k.within.at_once)

  k_admit : (now : ℕ) (t : Truth) (r : Automation) (e : Engine) → known r.id ≡ true → (r.id ≡ a.id → r ≡ a) → K e
      → K (admit now t r e)
  unfolding admit uncertain
  k_admit now Yes r e i u k = go r.notes
    where
      D : Automation → Decision
      D z = decide z.mode z.max (tally (of_rule z.id) e.runs)

      room : eq_t r.id a.id ≡ true
          → Allows (D r) (most a.mode a.max) (most_executing a.mode a.max)
          (tally (of_rule a.id) e.runs) (tally (executing a.id) e.runs)
      room t =
          subst (λ (z : Automation). Allows (D z) (most a.mode a.max) (most_executing a.mode a.max)
          (tally (of_rule a.id) e.runs) (tally (executing a.id) e.runs))
          (sym (u (eq_t_eq _ _ t)))
          (decide_allows a.mode a.max (tally (of_rule a.id) e.runs) (tally (executing a.id) e.runs)
          (fewer_execute a.id e.runs))

      go : (l : List Text) → K (elim l [ [] ↦ carry_out now (D r) r e | x ∷ y ↦ e ])
      go [] = k_carry now (D r) r e i room k
      go (x ∷ y) = k
  k_admit now No r e i u k = k
  k_admit now Unknown r e i u k = k

  pub k_offer : (now : ℕ) (x from to : Text) (r : Automation) (e : Engine) → known r.id ≡ true
      → (r.id ≡ a.id → r ≡ a) → K e → K (offer now x from to r e)
  unfolding offer log append
  k_offer now x from to r e i u k =
      if_prop K (any (matches x from to) r.triggers)
      (λ _. k_admit now (evaluate_all (moment now e) r.conditions e.cells) r _ i u k) (λ _. k)

  k_offers : (now : ℕ) (x from to : Text) (l : List Automation) (e : Engine) → Knows known l → Only a l → K e
      → K (through (offer now x from to) l e)
  unfolding through
  k_offers now x from to [] e i u k = k
  k_offers now x from to (r ∷ l) e i u k =
      k_offers now x from to l (offer now x from to r e) i.1 u.1 (k_offer now x from to r e i.0 u.0 k)

  -- ---- a run's next action

  k_tested : (now : ℕ) (t : Truth) (r : Run) (e : Engine) → Going r.key e → K e → K (tested now t r e)
  unfolding tested add uncertain
  k_tested now Yes r e g k = k
  k_tested now No r e g k = k_finish now r e g k
  k_tested now Unknown r e g k = k_finish now r _ g k

  k_chosen : (now : ℕ) (o : Option Actions) (src : Source) (r : Run) (e : Engine) → r.queued ≡ false
      → Going r.key e → K e → K (chosen now o src r e)
  unfolding chosen uncertain log_action log append add
  k_chosen now none src r e q g k = k_finish now r _ g k
  k_chosen now (some l) src r e q g k = k_store (left (l then r.actions) r) e q g k

  k_perform : (now : ℕ) (f : Effect) (src : Source) (r : Run) (e : Engine) → r.queued ≡ false → Going r.key e
      → K e → K (perform now f src r e)
  unfolding perform add write log_action log append go_on_after uncertain
  k_perform now (Effect.set x v) src r e q g k =
      q_update (Kept known a) now x v (some r.key.rule) (some src) Kind.action e k
  k_perform now (toggle x) src r e q g k = q_flip (Kept known a) now x src r e k
  k_perform now (delay m) src r e q g k = k
  k_perform now (condition p) src r e q g k = k_tested now (evaluate (moment now e) p e.cells) r _ g k
  k_perform now (choose bs d) src r e q g k = k_chosen now (select (moment now e) bs d e.cells) src r e q g k
  k_perform now (wait t s c) src r e q g k = unfold begin_wait in
      (if_prop K (absent t.note) (λ _. k_store
      (waits (some (record { trigger = t; deadline = now + s; continue = c; source = src })) r) e q g k)
      (λ _. k_finish now r _ g k))
  k_perform now (Effect.unknown reason) src r e q g k = k_finish now r _ g k

  k_go_on : (now : ℕ) (l : Actions) (r : Run) (e : Engine) → r.queued ≡ false → Going r.key e → K e
      → K (go_on now l r e)
  unfolding go_on
  k_go_on now done r e q g k = k_finish now r e g k
  k_go_on now (act src f rest) r e q g k =
      k_perform now f src (left rest r) _ q (g_store (left rest r) e q g) (k_store (left rest r) e q g k)

  going : (k : Key) (e : Engine) (r : Run) → find (same_run k) e.runs ≡ some r → r.queued ≡ false → Going r.key e
  going k e r p q = tally_found (goes r.key) (same_run k) e.runs r p (unfold goes in (rw (own_key r, q)))

  k_resume : (now : ℕ) (i : Key) (e : Engine) → K e → K (resume now i e)
  unfolding resume if_some
  k_resume now i e k = go (find (same_run i) e.runs) refl
    where
      go : (o : Option Run) → find (same_run i) e.runs ≡ o → K (if_some (step now) o e)
      go none p = k
      go (some r) p = unfold step in
          (if_prop K (r.queued || not (absent r.waiting)) (λ _. k)
          (λ n. let q : r.queued ≡ false = or_no r.queued _ n in k_go_on now r.actions r e q (going i e r p q)
          k))

  k_over : (now : ℕ) (w : Waiting) (r : Run) (e : Engine) → r.queued ≡ false → Going r.key e → K e
      → K (wait_over now w r e)
  unfolding wait_over log_action log append add
  k_over now w r e q g k =
      if_prop K (eqb w.deadline now)
      (λ _. if_prop K w.continue (λ _. k_store (waits none r) _ q g k) (λ _. k_finish now r _ g k))
      (λ _. k)

  k_time_out : (now : ℕ) (i : Key) (e : Engine) → K e → K (time_out now i e)
  unfolding time_out if_some absent
  k_time_out now i e k = go (find (same_run i) e.runs) refl
    where
      go : (o : Option Run) → find (same_run i) e.runs ≡ o → K (if_some (end_wait now) o e)
      go none p = k
      go (some r) p = unfold end_wait in (by r.waiting refl)
        where
          free : (w : Waiting) → r.waiting ≡ some w → (b : Bool) → r.queued ≡ b → r.queued ≡ false
          free w h true q =
              absurd (false≢true (sym (ap absent h) ∙
              (each_found (Fit e.made) (same_run i) e.runs r k.fit p).rests q))
          free w h false q = q

          by : (w : Option Waiting) → r.waiting ≡ w → K (if_some (λ w. wait_over now w r) w e)
          by none h = k
          by (some w) h =
              let q : r.queued ≡ false = free w h r.queued refl in k_over now w r e q (going i e r p q) k

  -- ---- the other work, and all work

  k_stale : (now : ℕ) (x : Text) (n : ℕ) (e : Engine) → K e → K (go_stale now x n e)
  unfolding go_stale if_some
  k_stale now x n e k = go (cell_of x e.cells)
    where
      go : (o : Option Cell) → K (if_some (expire now n) o e)
      go none = k
      go (some d) =
          unfold expire log append with_cells add in
          (if_prop K (eqb d.version n && not (eq_t d.value (text "unknown"))) (λ _. k) (λ _. k))

  k_drop : (now : ℕ) (e : Engine) → K e → K (drop_runs now e)
  unfolding drop_runs with_runs log append tally
  k_drop now e k =
      record { order = tt; fit = tt; from = k.from; within = record { bound = omega arith; at_once = omega arith } }

  pub process_keeps : (now : ℕ) (rules : List Automation) (w : Work) (e : Engine) → Knows known rules → Only a rules
      → K e → K (process now rules w e)
  unfolding process trigger
  process_keeps now rules (Work.external (Input.set x v)) e i u k =
      q_update (Kept known a) now x v none none Kind.external e k
  process_keeps now rules (Work.external Input.restart) e i u k = k_drop now e k
  process_keeps now rules (Work.external reload) e i u k = k_drop now e k
  process_keeps now rules (Work.changed x from to) e i u k =
      k_offers now x from to rules _ i u (k_wake now x from to e k)
  process_keeps now rules (Work.resume j) e i u k = k_resume now j e k
  process_keeps now rules (Work.timeout j) e i u k = k_time_out now j e k
  process_keeps now rules (Work.stale x n) e i u k = k_stale now x n e k

  pub begun_keeps : (areas : Areas) (origin : Moment) (cells : List Cell) (notes : List Text) (events : List Event)
      → K (begun areas origin cells notes events)
  unfolding begun log append tally
  begun_keeps areas origin cells notes events =
      q_adds (Kept known a) (flat (expiry 0) cells) _
      (q_adds (Kept known a) (each event_item events) _
      (record { order = tt; fit = tt; from = tt; within = record { bound = omega arith; at_once = omega arith } }))

  pub closed_keeps : (horizon : ℕ) (d : Ended) → K d.engine → K (closed horizon d).engine
  unfolding closed
  closed_keeps h d k = go _
    where
      go : (l : List Text) → K (last_record h l d.engine)
      go [] = unfold last_record log append in k
      go (t ∷ l) = unfold last_record in k
