-- How much each operation of the engine puts into the areas: so many items and records at most, and no overflow if
-- there is room for them. Enough adds them up over the loop.
use Rattle.std.specs.Prelude.{if◌then◌else◌}
use Prim.Native.Nat.{ℕ, suc, ◌+◌, ◌≤◌}
use mathlib.Core.Path.{◌≡◌, refl, ap, subst}
use mathlib.Core.Bool.{Bool, true, false, not, ◌&&◌, ◌||◌}
use mathlib.Core.List.{List, [], ◌∷◌}
use mathlib.Core.Option.{Option, none, some}
use native.Mathlib.Omega.{arith}
use lib.Dec.{eqb}
use lib.ListN.{length, length-append}
use Rattle.texts.specs.Lists.{◌▸◌, absent, any, keep, find, tally, each, through}
use Rattle.texts.specs.Texts.{Text, text, eq_t}
use Rattle.model_spec.specs.Validate.{undecided}
use Rattle.model_spec.specs.Model.{Source, Effect, toggle, delay, condition, choose, wait, Actions, done, act, Automation}
use Rattle.engine_spec.specs.Cells.{Cell, cell_of, value_of, put}
use Rattle.engine_spec.specs.Kleene.{Truth, Yes, No, Unknown}
use Rattle.engine_spec.specs.Truth.{evaluate, evaluate_all, matches}
use Rattle.engine_spec.specs.Modes.{
  Decision,
  already_running,
  max_reached,
  start,
  stop_and_start,
  wait_in_line,
  decide,
}
use Rattle.engine_spec.specs.Records.{Key, Waiting, Run, Work, Item, Kind, Change, Trace, Areas, Engine}
use Rattle.engine_spec.specs.Changes.{if_some, noted, with_cells, add, append, with_runs, add_run, uncertain, adds}
use Rattle.engine_spec.specs.Engine.{
  same_run,
  of_rule,
  of_other_rule,
  queued_for,
  store,
  left,
  waits,
  released,
  fresh_run,
  awaits,
  woken,
  toggled,
  ◌then◌,
  select,
  moment,
  next_step,
  log,
  log_rule,
  log_action,
  expiry,
  expiry_of,
  change_of,
  update,
  let_go,
  release,
  finish,
  wake,
  begin,
  carry_out,
  admit,
  offer,
  trigger,
  go_on_after,
  write,
  flip,
  tested,
  chosen,
  begin_wait,
  perform,
  go_on,
  step,
  resume,
  wait_over,
  end_wait,
  time_out,
  expire,
  go_stale,
  drop_runs,
}
use Rattle.engine_spec.proofs.Lists.{if_prop, lt-leb}
use Rattle.engine_spec.proofs.Modes.{begin_runs}

calm_note : (n used size : ℕ) {o : Option ℕ} → o ≡ none → used + 1 ≤ size → noted n used size o ≡ none
unfolding noted
calm_note n used size e h = rw (e, lt-leb size used h)

pub length_each : {A B : Type 0} (f : A → B) (l : List A) → length (each f l) ≡ length l
unfolding each
length_each f [] = refl
length_each f (x ∷ l) = ap suc (length_each f l)

length_keep : {A : Type 0} (p : A → Bool) (l : List A) → length (keep p l) ≤ length l
unfolding keep
length_keep p [] = omega arith
length_keep {A} p (x ∷ l) =
    let h = length_keep p l in
    if_prop (λ (m : List A). length m ≤ suc (length l)) (p x) (λ _. omega (arith, h)) (λ _. omega (arith, h))

pub one_expiry : (now : ℕ) (c : Cell) → length (expiry now c) ≤ 1
unfolding expiry
one_expiry now c = by c.stale_after
  where
    by : (o : Option ℕ) → length {A = Item} (elim o [
      | none ↦ []
      | some ttl ↦ record { at = now + ttl + 1; work = Work.stale c.name c.version } ∷ []
    ]) ≤ 1
    by none = omega arith
    by (some n) = omega arith

module _ (A : Areas) where
  -- no overflow so far, and there is room for q more items and t more records
  pub record Fits (q t : ℕ) (queue : List Item) (trace : List Trace) (overflow : Option ℕ) (areas : Areas) : Type 0
    where
      pub items : length queue + q ≤ A.queue
      pub told : length trace + t ≤ A.records
      pub calm : overflow ≡ none
      pub same : areas ≡ A

  abbrev pub F : ℕ → ℕ → Engine → Type 0
  F q t e = Fits q t e.queue e.trace e.overflow e.areas

  pub f_weak : {q t q' t' : ℕ} {l : List Item} {r : List Trace} {o : Option ℕ} {s : Areas} → q' ≤ q → t' ≤ t
      → Fits q t l r o s → Fits q' t' l r o s
  f_weak h k f =
      record { items = omega (arith, f.items); told = omega (arith, f.told); calm = f.calm; same = f.same }

  f_add : {q t : ℕ} (i : Item) (e : Engine) → F (q + 1) t e → F q t (add i e)
  unfolding add
  f_add {q} {t} i e f = record {
    items = omega (arith, f.items, length-append e.queue (i ∷ []));
    told = f.told;
    calm = calm_note 41 (length e.queue) e.areas.queue f.calm (rw f.same (omega (arith, f.items)));
    same = f.same;
  }

  f_append : {q t : ℕ} (r : Trace) (e : Engine) → F q (t + 1) e → F q t (append r e)
  unfolding append
  f_append {q} {t} r e f = record {
    items = f.items;
    told = omega (arith, f.told, length-append e.trace (r ∷ []));
    calm = calm_note 42 (length e.trace) e.areas.records f.calm (rw f.same (omega (arith, f.told)));
    same = f.same;
  }

  f_add_run : {q t : ℕ} (r : Run) (e : Engine) → length e.runs + 1 ≤ A.runs → F q t e → F q t (add_run r e)
  unfolding add_run
  f_add_run {q} {t} r e h f = record {
    items = f.items;
    told = f.told;
    calm = calm_note 43 (length e.runs) e.areas.runs f.calm (rw f.same h);
    same = f.same;
  }

  pub f_adds : {q t : ℕ} (l : List Item) (e : Engine) → F (length l + q) t e → F q t (adds l e)
  unfolding adds through
  f_adds [] e f = f_weak (omega arith) (omega arith) f
  f_adds {q} {t} (i ∷ l) e f = f_adds l (add i e) (f_add i e (f_weak (omega arith) (omega arith) f))

  f_one : {q t : ℕ} (l : List Item) (e : Engine) → length l ≤ 1 → F (q + 1) t e → F q t (adds l e)
  f_one l e h f = f_adds l e (f_weak (omega arith) (omega arith) f)

  pub f_log : {q t : ℕ} (now : ℕ) (k : Kind) (id : Option Text) (s : Option Source) (c : Option Change) (e : Engine)
      → F q (t + 1) e → F q t (log now k id s c e)
  unfolding log
  f_log now k id s c e f = f_append _ e f

  module _ (now : ℕ) where
    pub f_update : {q t : ℕ} (x v : Text) (id : Option Text) (src : Option Source) (k : Kind) (e : Engine)
        → F (q + 2) (t + 1) e → F q t (update now x v id src k e)
    unfolding update with_cells
    f_update {q} {t} x v id src k e f =
        f_one (change_of now x (value_of x e.cells) v) _ changes
        (f_log now k id src _ _ (f_one (expiry_of now (cell_of x (put x v 1 e.cells)))
        (with_cells (put x v 1 e.cells) e) (expires (cell_of x (put x v 1 e.cells)))
        (f_weak (omega arith) (omega arith) f)))
      where
        changes : length (change_of now x (value_of x e.cells) v) ≤ 1
        changes =
            unfold change_of in (if_prop (λ (l : List Item). length l ≤ 1) (eq_t (value_of x e.cells) v)
            (λ _. omega arith) (λ _. omega arith))

        expires : (c : Option Cell) → length (expiry_of now c) ≤ 1
        expires none = unfold expiry_of in (omega arith)
        expires (some c) = unfold expiry_of in (one_expiry now c)

    f_release : {q t : ℕ} (id : Text) (e : Engine) → F (q + 1) t e → F q t (release now id e)
    unfolding release
    f_release {q} {t} id e f = go (find (queued_for id) e.runs)
      where
        go : (o : Option Run) → F q t (if_some (let_go now) o e)
        go none = unfold if_some in (f_weak (omega arith) (omega arith) f)
        go (some r) = unfold if_some let_go store with_runs in (f_add _ (store (released r) e) f)

    f_finish : {q t : ℕ} (r : Run) (e : Engine) → F (q + 1) (t + 1) e → F q t (finish now r e)
    unfolding finish log_rule with_runs
    f_finish r e f = f_release r.key.rule _ (f_log now _ _ _ _ _ f)

    -- wakes at most n runs
    pub f_wake : {q t : ℕ} (n : ℕ) (x from to : Text) (e : Engine) → length e.runs ≤ n → F (n + q) t e
        → F q t (wake now x from to e)
    unfolding wake with_runs
    f_wake n x from to e h f =
        f_adds (each (next_step now) (keep (awaits x from to) e.runs))
        (with_runs (each (woken x from to) e.runs) e)
        (f_weak (omega (
          arith,
          length_each (next_step now) (keep (awaits x from to) e.runs),
          length_keep
              (awaits x from to) e.runs,
        )) (omega arith) f)

    -- a run begun is one more
    room : (r : Automation) (later : Bool) (e : Engine) → length (begin now r later e).runs ≤ A.runs
        → length e.runs + 1 ≤ A.runs
    room r later e h =
        omega (
          arith,
          subst (λ (l : List Run). length l ≤ A.runs) (begin_runs now r later e) h,
          length-append
              e.runs (fresh_run r later e.made ∷ []),
        )

    f_begin : {q t : ℕ} (r : Automation) (later : Bool) (e : Engine) → length e.runs + 1 ≤ A.runs
        → F (q + 1) (t + 1) e → F q t (begin now r later e)
    unfolding begin log_rule
    f_begin r later e h f =
        f_one (if later then [] else next_step now (fresh_run r later e.made) ∷ []) _
        (if_prop (λ (l : List Item). length l ≤ 1) later (λ _. omega arith) (λ _. omega arith))
        (f_log now _ _ _ _ _ (f_add_run (fresh_run r later e.made) e h f))

    -- what a decision puts in, if the runs that it leaves have room
    f_carry : {q t : ℕ} (d : Decision) (r : Automation) (e : Engine) → length (carry_out now d r e).runs ≤ A.runs
        → F (q + 1) (t + 2) e → F q t (carry_out now d r e)
    unfolding carry_out
    f_carry already_running r e h f = unfold log_rule in (f_log now _ _ _ _ e (f_weak (omega arith) (omega arith) f))
    f_carry max_reached r e h f = unfold log_rule in (f_log now _ _ _ _ e (f_weak (omega arith) (omega arith) f))
    f_carry start r e h f = f_begin r false e (room r false e h) (f_weak (omega arith) (omega arith) f)
    f_carry stop_and_start r e h f =
        f_begin r false (e ▸ with_runs (keep (of_other_rule r.id) e.runs) ▸ log_rule now Kind.cancel r.id)
        (room r false _ h)
        (unfold log_rule with_runs in (f_log now Kind.cancel _ _ _
        (with_runs (keep (of_other_rule r.id) e.runs) e) (f_weak (omega arith) (omega arith) f)))
    f_carry wait_in_line r e h f = f_begin r true e (room r true e h) (f_weak (omega arith) (omega arith) f)

    f_admit : {q t : ℕ} (v : Truth) (r : Automation) (e : Engine) → length (admit now v r e).runs ≤ A.runs
        → F (q + 1) (t + 2) e → F q t (admit now v r e)
    unfolding admit uncertain
    f_admit {q} {t} Yes r e h f = go r.notes h
      where
        D : Decision
        D = decide r.mode r.max (tally (of_rule r.id) e.runs)

        after : List Text → Engine
        after l = elim l [ [] ↦ carry_out now D r e | x ∷ y ↦ e ]

        go : (l : List Text) → length (after l).runs ≤ A.runs → F q t (after l)
        go [] k = f_carry D r e k f
        go (x ∷ y) k = f_weak (omega arith) (omega arith) f
    f_admit No r e h f = f_weak (omega arith) (omega arith) f
    f_admit Unknown r e h f = f_weak (omega arith) (omega arith) f

    pub f_offer : {q t : ℕ} (x from to : Text) (r : Automation) (e : Engine)
        → length (offer now x from to r e).runs ≤ A.runs → F (q + 1) (t + 3) e → F q t (offer now x from to r e)
    unfolding offer
    f_offer {q} {t} x from to r e h f = go (any (matches x from to) r.triggers) h
      where
        v : Truth
        v = evaluate_all (moment now e) r.conditions e.cells

        told : Engine
        told = log now (Kind.trigger v) (some r.id) (some r.source) none e

        go : (b : Bool) → length (if b then admit now v r told else e).runs ≤ A.runs
            → F q t (if b then admit now v r told else e)
        go true k = f_admit v r told k (f_log now _ _ _ _ e (f_weak (omega arith) (omega arith) f))
        go false k = f_weak (omega arith) (omega arith) f

    -- ---- a run's next action

    f_tested : {q t : ℕ} (v : Truth) (r : Run) (e : Engine) → F (q + 1) (t + 1) e → F q t (tested now v r e)
    unfolding tested uncertain
    f_tested Yes r e f = f_add _ e (f_weak (omega arith) (omega arith) f)
    f_tested No r e f = f_finish r e f
    f_tested Unknown r e f = f_finish r _ f

    f_chosen : {q t : ℕ} (o : Option Actions) (src : Source) (r : Run) (e : Engine) → F (q + 1) (t + 1) e
        → F q t (chosen now o src r e)
    unfolding chosen uncertain log_action store with_runs
    f_chosen none src r e f = f_finish r _ f
    f_chosen (some l) src r e f = f_add _ _ (f_log now _ _ _ _ (store (left (l then r.actions) r) e) f)

    f_flip : {q t : ℕ} (x : Text) (src : Source) (r : Run) (e : Engine) → F (q + 2) (t + 1) e
        → F q t (flip now x src r e)
    unfolding flip write uncertain
    f_flip {q} {t} x src r e f =
        if_prop (F q t) (undecided (value_of x e.cells)) (λ _. f_weak (omega arith) (omega arith) f)
        (λ _. f_update x (toggled (value_of x e.cells)) (some r.key.rule) (some src) Kind.action e f)

    f_perform : {q t : ℕ} (g : Effect) (src : Source) (r : Run) (e : Engine) → F (q + 3) (t + 2) e
        → F q t (perform now g src r e)
    unfolding perform write log_action go_on_after uncertain
    f_perform (Effect.set x v) src r e f =
        f_add _ _ (f_update x v (some r.key.rule) (some src) Kind.action e (f_weak (omega arith) (omega arith) f))
    f_perform (toggle x) src r e f = f_add _ _ (f_flip x src r e (f_weak (omega arith) (omega arith) f))
    f_perform (delay m) src r e f = f_add _ _ (f_log now _ _ _ _ e (f_weak (omega arith) (omega arith) f))
    f_perform (condition p) src r e f =
        f_tested (evaluate (moment now e) p e.cells) r _ (f_log now _ _ _ _ e (f_weak (omega arith) (omega arith) f))
    f_perform (choose bs d) src r e f =
        f_chosen (select (moment now e) bs d e.cells) src r e (f_weak (omega arith) (omega arith) f)
    f_perform {q} {t} (wait u s c) src r e f = unfold begin_wait store with_runs log_action in
        (if_prop (F q t) (absent u.note)
        (λ _. f_log now _ _ _ _ _ (f_add _ (store
        (waits (some (record { trigger = u; deadline = now + s; continue = c; source = src })) r) e)
        (f_weak (omega arith) (omega arith) f)))
        (λ _. f_finish r _ (f_weak (omega arith) (omega arith) f)))
    f_perform (Effect.unknown reason) src r e f =
        f_finish r _ (f_log now _ _ _ _ (uncertain reason e) (f_weak (omega arith) (omega arith) f))

    f_go_on : {q t : ℕ} (l : Actions) (r : Run) (e : Engine) → F (q + 3) (t + 2) e → F q t (go_on now l r e)
    unfolding go_on store with_runs
    f_go_on done r e f = f_finish r e (f_weak (omega arith) (omega arith) f)
    f_go_on (act src g rest) r e f = f_perform g src (left rest r) (store (left rest r) e) f

    pub f_resume : {q t : ℕ} (k : Key) (e : Engine) → F (q + 3) (t + 2) e → F q t (resume now k e)
    unfolding resume
    f_resume {q} {t} k e f = go (find (same_run k) e.runs)
      where
        go : (o : Option Run) → F q t (if_some (step now) o e)
        go none = unfold if_some in (f_weak (omega arith) (omega arith) f)
        go (some r) = unfold if_some step in
            (if_prop (F q t) (r.queued || not (absent r.waiting)) (λ _. f_weak (omega arith) (omega arith) f)
            (λ _. f_go_on r.actions r e f))

    -- ---- the other work

    f_over : {q t : ℕ} (w : Waiting) (r : Run) (e : Engine) → F (q + 1) (t + 2) e → F q t (wait_over now w r e)
    unfolding wait_over log_action store with_runs
    f_over {q} {t} w r e f =
        if_prop (F q t) (eqb w.deadline now)
        (λ _. if_prop (F q t) w.continue
        (λ _. f_add _ (store (waits none r) (log now (Kind.timeout w.continue) (some r.key.rule)
        (some w.source) none e)) (f_log now _ _ _ _ e (f_weak (omega arith) (omega arith) f)))
        (λ _. f_finish r _ (f_log now _ _ _ _ e (f_weak (omega arith) (omega arith) f))))
        (λ _. f_weak (omega arith) (omega arith) f)

    pub f_time_out : {q t : ℕ} (k : Key) (e : Engine) → F (q + 1) (t + 2) e → F q t (time_out now k e)
    unfolding time_out
    f_time_out {q} {t} k e f = go (find (same_run k) e.runs)
      where
        go : (o : Option Run) → F q t (if_some (end_wait now) o e)
        go none = unfold if_some in (f_weak (omega arith) (omega arith) f)
        go (some r) = unfold if_some end_wait in (by r.waiting)
          where
            by : (o : Option Waiting) → F q t (if_some (λ w. wait_over now w r) o e)
            by none = unfold if_some in (f_weak (omega arith) (omega arith) f)
            by (some w) = unfold if_some in (f_over w r e f)

    pub f_stale : {q t : ℕ} (x : Text) (n : ℕ) (e : Engine) → F (q + 1) (t + 1) e → F q t (go_stale now x n e)
    unfolding go_stale
    f_stale {q} {t} x n e f = go (cell_of x e.cells)
      where
        go : (o : Option Cell) → F q t (if_some (expire now n) o e)
        go none = unfold if_some in (f_weak (omega arith) (omega arith) f)
        go (some d) = unfold if_some expire with_cells in
            (if_prop (F q t) (eqb d.version n && not (eq_t d.value (text "unknown")))
            (λ _. f_add _ _ (f_log now _ _ _ _ (with_cells (put d.name (text "unknown") 0 e.cells) e) f))
            (λ _. f_weak (omega arith) (omega arith) f))

    pub f_drop : {q t : ℕ} (e : Engine) → F q (t + 1) e → F q t (drop_runs now e)
    unfolding drop_runs with_runs
    f_drop e f = f_log now _ _ _ _ (with_runs [] e) f
