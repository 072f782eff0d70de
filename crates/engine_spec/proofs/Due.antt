-- What stands in the queue for each run, and which run of an automation executes: each operation of the engine on a run
-- keeps it.
use Rattle.std.specs.Prelude.{if◌then◌else◌}
use Prim.Native.Nat.{ℕ, ◌+◌, ◌≤◌, ◌<◌}
use mathlib.Core.Path.{◌≡◌, refl, sym, ap, ◌∙◌, subst}
use mathlib.Core.Bool.{Bool, true, false, not, ◌&&◌, ◌||◌, true≢false, false≢true}
use mathlib.Core.List.{List, [], ◌∷◌, ◌++◌, append-nil, append_assoc}
use mathlib.Core.Option.{Option, none, some}
use native.Mathlib.Omega.{arith}
use lib.Dec.{eqb}
use Rattle.texts.specs.Lists.{absent, present_and, keep, find, tally, each, through}
use Rattle.texts.specs.Texts.{Text, text, eq_t}
use Rattle.model_spec.specs.Model.{
  Source,
  Mode,
  single,
  queued,
  parallel,
  Effect,
  toggle,
  delay,
  condition,
  choose,
  wait,
  Actions,
  done,
  act,
  Automation,
}
use Rattle.model_spec.specs.Validate.{undecided}
use Rattle.engine_spec.specs.Cells.{Cell, cell_of, value_of, put}
use Rattle.engine_spec.specs.Kleene.{Truth, Yes, No, Unknown}
use Rattle.engine_spec.specs.Truth.{evaluate, matches}
use Rattle.engine_spec.specs.Records.{Key, Waiting, Run, Work, Item, Kind, Engine}
use Rattle.engine_spec.specs.Changes.{if_some, with_cells, add, append, with_runs, add_run, uncertain, adds}
use Rattle.engine_spec.specs.Engine.{
  moment,
  same_run,
  of_rule,
  other_run,
  queued_for,
  executing,
  in_place,
  store,
  left,
  waits,
  released,
  fresh_run,
  awaits,
  woken,
  toggled,
  ◌then◌,
  select,
  at_once,
  next_step,
  log,
  log_rule,
  log_action,
  expiry,
  expiry_of,
  change_of,
  update,
  let_go,
  release,
  finish,
  wake,
  begin,
  trigger,
  go_on_after,
  write,
  flip,
  tested,
  chosen,
  begin_wait,
  perform,
  go_on,
  step,
  resume,
  wait_over,
  end_wait,
  time_out,
  expire,
  go_stale,
  drop_runs,
}
use Rattle.engine_spec.specs.Page.{
  same_key,
  steps,
  times_out,
  steps_in,
  steps_at,
  timeouts_at,
  acting,
  Due,
  Given,
  Meant,
  InLine,
  Grown,
}
use Rattle.engine_spec.proofs.Lists.{
  Case,
  is_true,
  is_false,
  case,
  if_prop,
  and_l,
  and_r,
  or_no,
  eqb_same,
  eq_t_eq,
  eq_t_same,
  some_eq,
  none_some,
  one,
  tally_same,
  tally_keep,
  tally_end,
  tally_found,
  tally_each,
  none_found,
  keep_append,
  keep_in,
  keep_same,
  keep_each,
  find_keep,
  Each,
  each_keep,
  each_sift,
  each_less,
  each_to,
  each_weak,
  each_both,
  each_end,
  each_found,
  each_join,
  found_is,
  tally_none,
  none_each,
}
use Rattle.engine_spec.proofs.Runs.{
  keys_eq,
  keys_same,
  later_differs,
  key_is,
  own_key,
  kept_key,
  Later,
  InOrder,
  order_keep,
  order_each,
  order_end,
  Fit,
  goes,
  rule_in_place,
  in_here,
  in_there,
  executing_less,
  goes_store,
}
use Rattle.engine_spec.proofs.Steps.{
  keys_differ,
  only_found,
  once_at,
  steps_end,
  steps_at_end,
  timeouts_end,
  steps_more,
  steps_at_more,
  timeouts_more,
  more,
  line_none,
}

-- ---- the invariant

-- of a run, in a step at the second `now` at whose start the runs with `called` keys were queued:
-- its key was given; if it is queued it doesn't wait; what is queued for it, unless it is `free`; and if it was queued
-- and executes, a step is due now
pub record Good (now : ℕ) (called : Key → Bool) (free : Bool) (made : List Text) (queue : List Item) (r : Run) : Type 0
  where
    pub fit : Fit made r
    pub due : free ≡ false → Due queue r
    pub soon : called r.key ≡ true → r.queued ≡ false → 1 ≤ steps_at now r.key queue

-- of all runs, and of the queue, which has grown from what it was at the step's start
pub record Sound (a : Automation) (now : ℕ) (called : Key → Bool) (base : List Item) (free : Run → Bool)
    (runs : List Run) (made : List Text) (queue : List Item) : Type 0 where
  pub order : InOrder runs
  pub good : Each (λ r. Good now called (free r) made queue r) runs
  pub line : InLine a.mode (keep (of_rule a.id) runs)
  pub meant : Each (λ i. Meant made i.work) queue
  pub kept : Grown base queue

pub grown_more : {A : Type 0} (base q l : List A) → Grown base q → Grown base (q ++ l)
grown_more {A} base q l g = (g.0 ++ l, ap {B = List A} (λ z. z ++ l) g.1 ∙ append_assoc base g.0 l)

-- no run is free
abbrev pub none_free : Run → Bool
none_free r = false

-- work for no run
abbrev pub Foreign : Item → Type 0
Foreign i = ((k : Key) → steps k i.work ≡ false) × ((made : List Text) → Meant made i.work)

module _ (a : Automation) (now : ℕ) (called : Key → Bool) (base : List Item) where
  abbrev pub S : (Run → Bool) → Engine → Type 0
  S free e = Sound a now called base free e.runs e.made e.queue

  -- ---- more items

  good_more : (free : Bool) (made : List Text) (q : List Item) (r : Run) (i : Item) → steps r.key i.work ≡ false
      → Good now called free made q r → Good now called free made (q ++ i ∷ []) r
  good_more free made q r i h g = record {
    fit = g.fit;
    due = λ f. record {
      step = steps_end r.key q i ∙ omega (arith, ap one h) ∙ (g.due f).step;
      timeout = λ w p. omega (arith, timeouts_end w.deadline r.key q i, (g.due f).timeout w p);
    };
    soon = λ c p. omega (arith, steps_at_end now r.key q i, g.soon c p);
  }

  s_add : (free : Run → Bool) (i : Item) (e : Engine) → Foreign i → S free e → S free (add i e)
  unfolding add
  s_add free i e f s = record {
    order = s.order;
    good = each_weak _ _ (λ r g. good_more (free r) e.made e.queue r i (f.0 r.key) g) e.runs s.good;
    line = s.line;
    meant = each_end (λ i. Meant e.made i.work) e.queue i s.meant (f.1 e.made);
    kept = grown_more base e.queue (i ∷ []) s.kept;
  }

  pub s_adds : (free : Run → Bool) (l : List Item) (e : Engine) → Each Foreign l → S free e → S free (adds l e)
  unfolding adds through
  s_adds free [] e f s = s
  s_adds free (i ∷ l) e f s = s_adds free l (add i e) f.1 (s_add free i e f.0 s)

  -- ---- the runs of an automation in line

  -- as its executing run has left
  abbrev Loose : Mode → List Run → Type 0
  Loose single l = Each (λ r. r.queued ≡ false) l
  Loose Mode.restart l = Each (λ r. r.queued ≡ false) l
  Loose queued l = Each (λ r. r.queued ≡ true) l
  Loose parallel l = Each (λ r. r.queued ≡ false) l

  -- flags stay
  line_each : (m : Mode) (f : Run → Run) (l : List Run) → Each (λ x. (f x).queued ≡ x.queued) l → InLine m l
      → InLine m (each f l)
  unfolding each
  line_each single f l h k = each_to _ _ f (λ x p. p) l (each_both _ _ (λ x. (f x).queued ≡ false) (λ x p q. p ∙ q) l h k)
  line_each Mode.restart f l h k =
      each_to _ _ f (λ x p. p) l (each_both _ _ (λ x. (f x).queued ≡ false) (λ x p q. p ∙ q) l h k)
  line_each parallel f l h k =
      each_to _ _ f (λ x p. p) l (each_both _ _ (λ x. (f x).queued ≡ false) (λ x p q. p ∙ q) l h k)
  line_each queued f [] h k = tt
  line_each queued f (x ∷ l) h k = (
    h.0 ∙ k.0,
    each_to _ _ f (λ x p. p) l (each_both _ _ (λ x. (f x).queued ≡ true) (λ x p q. p ∙ q) l h.1 k.1),
  )

  -- ---- a run in its step

  -- the run with other actions left and another wait
  abbrev like : Actions → Option Waiting → Run → Run
  like l w r = record { key = r.key; number = r.number; actions = l; waiting = w; queued = r.queued }

  -- it executes, is the only one with its key, and has no next step in the queue
  record Open (r : Run) (runs : List Run) (made : List Text) (queue : List Item) : Type 0 where
    sound : Sound a now called base (same_run r.key) runs made queue
    sole : Each (λ x. same_run r.key x ≡ true → x ≡ r) runs
    there : 1 ≤ tally (goes r.key) runs
    spent : steps_in r.key queue ≡ 0
    given : Given made r.key
    free : r.queued ≡ false
    called_now : called r.key ≡ true → 1 ≤ steps_at now r.key queue

  abbrev O : Run → Engine → Type 0
  O r e = Open r e.runs e.made e.queue

  o_like : (l : Actions) (w : Option Waiting) (r : Run) (e : Engine) → O r e → O (like l w r) (store (like l w r) e)
  unfolding store with_runs
  o_like l w r e o = record {
    sound = record {
      order = order_each (in_place n) (kept_key n) e.runs o.sound.order;
      good = each_to _ _ (in_place n) (λ x g. by x g (case (same_run r.key x))) e.runs o.sound.good;
      line =
          subst (InLine a.mode) (sym (keep_each (of_rule a.id) (of_rule a.id) (in_place n)
          (rule_in_place a.id n) e.runs))
          (line_each a.mode (in_place n) (keep (of_rule a.id) e.runs) (each_keep _ (of_rule a.id) e.runs
          flags) o.sound.line);
      meant = o.sound.meant;
      kept = o.sound.kept;
    };
    sole = each_to _ _ (in_place n) (λ x s. alone x (case (same_run r.key x))) e.runs o.sole;
    there = omega (arith, goes_store r.key n e.runs o.free, o.there);
    spent = o.spent;
    given = o.given;
    free = o.free;
    called_now = o.called_now;
  }
    where
      n : Run
      n = like l w r

      flags : Each (λ x. (in_place n x).queued ≡ x.queued) e.runs
      flags = each_weak _ _ (λ x s. by x s (case (same_run r.key x))) e.runs o.sole
        where
          by : (x : Run) → (same_run r.key x ≡ true → x ≡ r) → Case (same_run r.key x)
              → (in_place n x).queued ≡ x.queued
          by x s (is_true b) = ap (λ (y : Run). y.queued) (in_here n x b) ∙ sym (ap (λ (y : Run). y.queued) (s b))
          by x s (is_false b) = ap (λ (y : Run). y.queued) (in_there n x b)

      by : (x : Run) → Good now called (same_run r.key x) e.made e.queue x → Case (same_run r.key x)
          → Good now called (same_run r.key (in_place n x)) e.made e.queue (in_place n x)
      by x g (is_true b) =
          subst (λ (y : Run). Good now called (same_run r.key y) e.made e.queue y) (sym (in_here n x b)) (record {
            fit = record { old = o.given; rests = λ t. absurd (true≢false (sym t ∙ o.free)) };
            due = λ f. absurd (true≢false (sym (own_key n) ∙ f));
            soon = λ c p. o.called_now c;
          })
      by x g (is_false b) =
          subst (λ (y : Run). Good now called (same_run r.key y) e.made e.queue y) (sym (in_there n x b)) g

      alone : (x : Run) → Case (same_run r.key x) → same_run r.key (in_place n x) ≡ true → in_place n x ≡ n
      alone x (is_true b) h = in_here n x b
      alone x (is_false b) h = absurd (true≢false (sym h ∙ (ap (same_run r.key) (in_there n x b) ∙ b)))

  o_adds : (l : List Item) (r : Run) (e : Engine) → Each Foreign l → O r e → O r (adds l e)
  unfolding adds through
  o_adds [] r e f o = o
  o_adds (i ∷ l) r e f o = o_adds l r (add i e) f.1 (unfold add in (record {
    sound = s_add (same_run r.key) i e f.0 o.sound;
    sole = o.sole;
    there = o.there;
    spent = omega (arith, steps_end r.key e.queue i, o.spent, ap one (f.0.0 r.key));
    given = o.given;
    free = o.free;
    called_now = λ c. omega (arith, steps_at_end now r.key e.queue i, o.called_now c);
  }))

  -- its next step is queued
  o_step : (t : ℕ) (r : Run) (e : Engine) → r.waiting ≡ none → O r e
      → S none_free (add (record { at = t; work = Work.resume r.key }) e)
  unfolding add
  o_step t r e w o = record {
    order = o.sound.order;
    good = each_both _ _ _ (λ x s g. by x s g (case (same_run r.key x))) e.runs o.sole o.sound.good;
    line = o.sound.line;
    meant = each_end (λ i. Meant e.made i.work) e.queue i o.sound.meant o.given;
    kept = grown_more base e.queue (i ∷ []) o.sound.kept;
  }
    where
      i : Item
      i = record { at = t; work = Work.resume r.key }

      hit : steps r.key i.work ≡ true
      hit = unfold steps in (keys_same r.key)

      acts : acting r ≡ true
      acts = unfold acting absent in (rw (o.free, w))

      mine : Good now called false e.made (e.queue ++ i ∷ []) r
      mine = record {
        fit = record { old = o.given; rests = λ q. absurd (true≢false (sym q ∙ o.free)) };
        due = λ _. record {
          step = omega (arith, steps_end r.key e.queue i, o.spent, ap one hit, ap one acts);
          timeout = λ v p. absurd (none_some (sym w ∙ p));
        };
        soon = λ c p. omega (arith, steps_at_end now r.key e.queue i, o.called_now c);
      }

      by : (x : Run) → (same_run r.key x ≡ true → x ≡ r) → Good now called (same_run r.key x) e.made e.queue x
          → Case (same_run r.key x) → Good now called false e.made (e.queue ++ i ∷ []) x
      by x s g (is_true b) =
          subst (λ (y : Run). Good now called false e.made (e.queue ++ i ∷ []) y) (sym (s b)) mine
      by x s g (is_false b) =
          good_more false e.made e.queue x i (unfold steps in (keys_differ r.key x b)) (rw b at g)

  -- it waits, and its timeout is queued
  o_wait : (w : Waiting) (r : Run) (e : Engine) → O r e
      → S none_free (add (record { at = w.deadline; work = Work.timeout r.key }) (store (waits (some w) r) e))
  unfolding add store with_runs
  o_wait w r e before = record {
    order = o.sound.order;
    good = each_both _ _ _ (λ x s g. by x s g (case (same_run r.key x))) (runs) o.sole o.sound.good;
    line = o.sound.line;
    meant = each_end (λ i. Meant e.made i.work) e.queue i o.sound.meant o.given;
    kept = grown_more base e.queue (i ∷ []) o.sound.kept;
  }
    where
      n : Run
      n = waits (some w) r

      runs : List Run
      runs = each (in_place n) e.runs

      o : Open n runs e.made e.queue
      o = o_like r.actions (some w) r e before

      i : Item
      i = record { at = w.deadline; work = Work.timeout r.key }

      rests : acting n ≡ false
      rests = unfold acting absent in (rw o.free)

      miss : (k : Key) → steps k i.work ≡ false
      miss k = unfold steps in refl

      hit : eqb i.at w.deadline && times_out r.key i.work ≡ true
      hit = unfold times_out in (rw (eqb_same w.deadline, keys_same r.key))

      mine : Good now called false e.made (e.queue ++ i ∷ []) n
      mine = record {
        fit = record { old = o.given; rests = λ q. absurd (true≢false (sym q ∙ o.free)) };
        due = λ _. record {
          step = omega (arith, steps_end r.key e.queue i, o.spent, ap one (miss r.key), ap one rests);
          timeout = λ v p. subst (λ (z : Waiting). 1 ≤ timeouts_at z.deadline r.key (e.queue ++ i ∷ [])) (some_eq p)
              (omega (arith, timeouts_end w.deadline r.key e.queue i, ap one hit));
        };
        soon = λ c p. omega (arith, steps_at_end now r.key e.queue i, o.called_now c);
      }

      by : (x : Run) → (same_run r.key x ≡ true → x ≡ n) → Good now called (same_run r.key x) e.made e.queue x
          → Case (same_run r.key x) → Good now called false e.made (e.queue ++ i ∷ []) x
      by x s g (is_true b) =
          subst (λ (y : Run). Good now called false e.made (e.queue ++ i ∷ []) y) (sym (s b)) mine
      by x s g (is_false b) = good_more false e.made e.queue x i (miss x.key) (rw b at g)

  -- ---- ends of runs

  -- the first of the queued runs goes on
  goes_first : (l : List Run) (s : Run) → Each (λ r. r.queued ≡ true) l → InOrder l → find (λ r. r.queued) l ≡ some s
      → InLine queued (each (in_place (released s)) l)
  unfolding each find
  goes_first [] s q o e = tt
  goes_first (x ∷ l) s q o e =
      let same : x ≡ s = some_eq (subst (λ (b : Bool). (if b then some x else find (λ r. r.queued) l) ≡ some s) q.0 e) in
      let own : same_run s.key x ≡ true = subst (λ (z : Run). same_run z.key x ≡ true) same (own_key x) in (
        ap (λ (y : Run). y.queued) (in_here (released s) x own),
        each_to _ _ (in_place (released s)) (λ y p. p) l (each_both (Later x) (λ r. r.queued ≡ true)
            (λ y. (in_place (released s) y).queued ≡ true)
            (λ y g p. ap (λ (z : Run). z.queued) (in_there (released s) y (later_differs s.key x y own g)) ∙ p) l o.0
            q.1),
      )

  nobody_queued : (l : List Run) → Each (λ r. r.queued ≡ true) l → find (λ r. r.queued) l ≡ none → InLine queued l
  unfolding find
  nobody_queued [] q e = tt
  nobody_queued (x ∷ l) q e = absurd (none_some (sym (rw q.0 at e)))

  -- all execute: none is in line
  no_line : (l : List Run) (s : Run) → Each (λ r. r.queued ≡ false) l → find (λ r. r.queued) l ≡ some s → ⊥
  no_line l s k e =
      true≢false (sym (found_is (λ r. r.queued) l s e) ∙ each_found (λ r. r.queued ≡ false) (λ r. r.queued) l s k e)

  released_line : (m : Mode) (l : List Run) (s : Run) → Loose m l → InOrder l → find (λ r. r.queued) l ≡ some s
      → InLine m (each (in_place (released s)) l)
  released_line single l s k o e = absurd (no_line l s k e)
  released_line Mode.restart l s k o e = absurd (no_line l s k e)
  released_line queued l s k o e = goes_first l s k o e
  released_line parallel l s k o e = absurd (no_line l s k e)

  unreleased_line : (m : Mode) (l : List Run) → Loose m l → find (λ r. r.queued) l ≡ none → InLine m l
  unreleased_line single l k e = k
  unreleased_line Mode.restart l k e = k
  unreleased_line queued l k e = nobody_queued l k e
  unreleased_line parallel l k e = k

  line_queued : (id : Text) (r : Run) → queued_for id r ≡ true → r.queued ≡ true
  unfolding queued_for
  line_queued id r h = and_r (of_rule id r) _ h

  queued_idle : (r : Run) → r.queued ≡ true → acting r ≡ false
  unfolding acting
  queued_idle r h = rw h

  released_acts : (r : Run) → absent r.waiting ≡ true → acting (released r) ≡ true
  unfolding acting
  released_acts r h = h

  own_step : (at : ℕ) (r : Run) → steps r.key (next_step at r).work ≡ true
  unfolding steps next_step at_once
  own_step at r = keys_same r.key

  own_step_now : (at : ℕ) (r : Run) → eqb (next_step at r).at at && steps r.key (next_step at r).work ≡ true
  unfolding steps next_step at_once
  own_step_now at r = rw (eqb_same at, keys_same r.key)

  s_release : (id : Text) (e : Engine) → InOrder e.runs
      → Each (λ r. Good now called false e.made e.queue r) e.runs
      → Each (λ i. Meant e.made i.work) e.queue
      → Grown base e.queue
      → (eq_t id a.id ≡ true → Loose a.mode (keep (of_rule a.id) e.runs))
      → (eq_t id a.id ≡ false → InLine a.mode (keep (of_rule a.id) e.runs))
      → S none_free (release now id e)
  unfolding release
  s_release id e o g m grown own other = go (find (queued_for id) e.runs) refl (case (eq_t id a.id))
    where
      own_runs : List Run
      own_runs = keep (of_rule a.id) e.runs

      -- the queued run that is found, among the automation's own
      among : (f : Option Run) → find (queued_for id) e.runs ≡ f → eq_t id a.id ≡ true
          → find (λ r. r.queued) own_runs ≡ f
      among f p t = unfold queued_for in
          (find_keep (of_rule a.id) (λ r. r.queued) e.runs
          ∙ subst (λ (z : Text). find (queued_for z) e.runs ≡ f) (eq_t_eq _ _ t) p)

      go : (f : Option Run) → find (queued_for id) e.runs ≡ f → Case (eq_t id a.id)
          → S none_free (if_some (let_go now) f e)
      go none p (is_true t) = unfold if_some in (record {
        order = o;
        good = g;
        line = unreleased_line a.mode own_runs (own t) (among none p t);
        meant = m;
        kept = grown;
      })
      go none p (is_false t) = unfold if_some in (record { order = o; good = g; line = other t; meant = m; kept = grown })
      go (some s) p c = unfold if_some let_go add store with_runs in (record {
        order = order_each (in_place n) (kept_key n) e.runs o;
        good =
            each_to _ _ (in_place n) (λ x h. h) e.runs
            (each_both _ _ (λ x. Good now called false e.made (e.queue ++ next_step now s ∷ []) (in_place n x))
            (λ x u h. by x u h (case (same_run s.key x))) e.runs (only_found (queued_for id) e.runs s o p) g);
        line = line_of c;
        meant = each_end (λ i. Meant e.made i.work) e.queue (next_step now s) m
            (unfold next_step at_once in mine.fit.old);
        kept = grown_more base e.queue (next_step now s ∷ []) grown;
      })
        where
          n : Run
          n = released s

          mine : Good now called false e.made e.queue s
          mine = each_found _ (queued_for id) e.runs s g p

          was : s.queued ≡ true
          was = line_queued id s (found_is (queued_for id) e.runs s p)

          idle : acting s ≡ false
          idle = queued_idle s was

          acts : acting n ≡ true
          acts = released_acts s (mine.fit.rests was)

          hit : steps s.key (next_step now s).work ≡ true
          hit = own_step now s

          at_now : eqb (next_step now s).at now && steps s.key (next_step now s).work ≡ true
          at_now = own_step_now now s

          freed : Good now called false e.made (e.queue ++ next_step now s ∷ []) n
          freed = record {
            fit = record { old = mine.fit.old; rests = λ q. absurd (false≢true q) };
            due = λ _. record {
              step =
                  omega (
                    arith,
                    steps_end s.key e.queue (next_step now s),
                    (mine.due refl).step,
                    ap one idle,
                    ap one hit,
                    ap one acts,
                  );
              timeout = λ v q.
                  omega (
                    arith,
                    timeouts_end v.deadline s.key e.queue (next_step now s),
                    (mine.due refl).timeout v q,
                  );
            };
            soon = λ d q. omega (arith, steps_at_end now s.key e.queue (next_step now s), ap one at_now);
          }

          by : (x : Run) → (same_run s.key x ≡ true → x ≡ s) → Good now called false e.made e.queue x
              → Case (same_run s.key x)
              → Good now called false e.made (e.queue ++ next_step now s ∷ []) (in_place n x)
          by x u h (is_true b) =
              subst (λ (y : Run). Good now called false e.made (e.queue ++ next_step now s ∷ []) y)
              (sym (in_here n x b)) freed
          by x u h (is_false b) =
              subst (λ (y : Run). Good now called false e.made (e.queue ++ next_step now s ∷ []) y)
              (sym (in_there n x b))
              (good_more false e.made e.queue x (next_step now s)
              (unfold steps next_step at_once in (keys_differ s.key x b)) h)

          rule_is : s.key.rule ≡ id
          rule_is = unfold queued_for of_rule in (eq_t_eq _ _ (and_l _ s.queued (found_is (queued_for id) e.runs s p)))

          line_of : Case (eq_t id a.id) → InLine a.mode (keep (of_rule a.id) (each (in_place n) e.runs))
          line_of (is_true t) =
              subst (InLine a.mode) (sym (keep_each (of_rule a.id) (of_rule a.id) (in_place n)
              (rule_in_place a.id n) e.runs))
              (released_line a.mode own_runs s (own t) (order_keep (of_rule a.id) e.runs o)
              (among (some s) p t))
          line_of (is_false t) =
              subst (InLine a.mode) (sym (keep_same (of_rule a.id) (in_place n) (rule_in_place a.id n) stays
              e.runs)) (other t)
            where
              stays : (x : Run) → of_rule a.id x ≡ true → in_place n x ≡ x
              stays x h = in_there n x (apart (case (same_run s.key x)))
                where
                  apart : Case (same_run s.key x) → same_run s.key x ≡ false
                  apart (is_false b) = b
                  apart (is_true b) =
                      let own : eq_t x.key.rule a.id ≡ true = unfold of_rule in h in
                      absurd (true≢false (sym own ∙
                      (ap (λ (z : Key). eq_t z.rule a.id) (key_is s.key x b)
                      ∙ (ap (λ (z : Text). eq_t z a.id) rule_is ∙ t))))

  -- at most one executes: the oldest
  line_one : (l : List Run) → InLine queued l → tally (λ r. not r.queued) l ≤ 1
  unfolding tally
  line_one [] k = omega arith
  line_one (x ∷ l) k =
      omega (
        arith,
        ap (λ (b : Bool). one (not b)) k.0,
        tally_none (λ r. r.queued ≡ true) (λ r. not r.queued) (λ r h. ap not h) l k.1,
      )

  -- an automation's executing run is taken out
  out_line : (m : Mode) (k : Key) (l : List Run) → eq_t k.rule a.id ≡ true → 1 ≤ tally (goes k) l
      → InLine m (keep (of_rule a.id) l) → Loose m (keep (of_rule a.id) (keep (other_run k) l))
  out_line single k l t g h = each_less (λ r. r.queued ≡ false) (of_rule a.id) (other_run k) l h
  out_line Mode.restart k l t g h = each_less (λ r. r.queued ≡ false) (of_rule a.id) (other_run k) l h
  out_line queued k l t g h =
      each_weak (λ (r : Run). not r.queued ≡ false) _ (λ r p. turn r.queued p)
      (keep (of_rule a.id) (keep (other_run k) l))
      (none_each (λ r. not r.queued) (keep (of_rule a.id) (keep (other_run k) l))
      (omega (
        arith,
        line_one (keep (of_rule a.id) l) h,
        counted l,
        counted (keep (other_run k) l),
        executing_less a.id k l t g,
      )))
    where
      turn : (b : Bool) → not b ≡ false → b ≡ true
      turn true p = refl
      turn false p = absurd (true≢false p)

      counted : (l : List Run) → tally (λ r. not r.queued) (keep (of_rule a.id) l) ≡ tally (executing a.id) l
      counted l = unfold executing in (tally_keep (λ r. not r.queued) (of_rule a.id) l)
  out_line parallel k l t g h = each_less (λ r. r.queued ≡ false) (of_rule a.id) (other_run k) l h

  s_finish : (r : Run) (e : Engine) → O r e → S none_free (finish now r e)
  unfolding finish log_rule log append with_runs
  s_finish r e o =
      s_release r.key.rule _ (order_keep (other_run r.key) e.runs o.sound.order)
      (each_sift _ _ (other_run r.key) (λ x p g. rw (unlike x p) at g) e.runs o.sound.good)
      o.sound.meant o.sound.kept
      (λ t. out_line a.mode r.key e.runs t o.there o.sound.line)
      (λ t. subst (InLine a.mode) (sym (keep_in (of_rule a.id) (other_run r.key) (others t) e.runs))
      o.sound.line)
    where
      unlike : (x : Run) → other_run r.key x ≡ true → same_run r.key x ≡ false
      unlike x p = by (same_run r.key x) (unfold other_run in p)
        where
          by : (b : Bool) → not b ≡ true → b ≡ false
          by true q = absurd (false≢true q)
          by false q = refl

      others : eq_t r.key.rule a.id ≡ false → (x : Run) → of_rule a.id x ≡ true → other_run r.key x ≡ true
      others t x h = by (case (same_run r.key x))
        where
          by : Case (same_run r.key x) → other_run r.key x ≡ true
          by (is_true b) =
              let own : eq_t x.key.rule a.id ≡ true = unfold of_rule in h in
              absurd (true≢false (sym own ∙ (ap (λ (z : Key). eq_t z.rule a.id) (key_is r.key x b) ∙ t)))
          by (is_false b) = unfold other_run in (rw b)

  -- ---- writes

  pub foreign_expiry : (c : Cell) → Each Foreign (expiry now c)
  unfolding expiry
  foreign_expiry c = by c.stale_after
    where
      by : (o : Option ℕ) → Each Foreign (elim o [
        | none ↦ []
        | some ttl ↦ record { at = now + ttl + 1; work = Work.stale c.name c.version } ∷ []
      ])
      by none = tt
      by (some n) = ((λ k. unfold steps in refl, λ m. tt), tt)

  foreign_write : (c : Option Cell) → Each Foreign (expiry_of now c)
  unfolding expiry_of
  foreign_write none = tt
  foreign_write (some c) = foreign_expiry c

  foreign_item : (t : ℕ) (x from to : Text) → Foreign (record { at = t; work = Work.changed x from to })
  unfolding steps
  foreign_item t x from to = (λ k. refl, λ m. tt)

  foreign_change : (x from to : Text) → Each Foreign (change_of now x from to)
  unfolding change_of at_once
  foreign_change x from to =
      if_prop (Each Foreign) (eq_t from to) (λ _. tt) (λ _. (foreign_item now x from to, tt))

  pub s_update : (free : Run → Bool) (x v : Text) (id : Option Text) (src : Option Source) (k : Kind) (e : Engine)
      → S free e → S free (update now x v id src k e)
  unfolding update log append with_cells
  s_update free x v id src k e s =
      s_adds free (change_of now x (value_of x e.cells) v) _ (foreign_change x (value_of x e.cells) v)
      (s_adds free (expiry_of now (cell_of x (put x v 1 e.cells))) (with_cells (put x v 1 e.cells) e)
      (foreign_write (cell_of x (put x v 1 e.cells))) s)

  o_update : (x v : Text) (id : Option Text) (src : Option Source) (k : Kind) (r : Run) (e : Engine) → O r e
      → O r (update now x v id src k e)
  unfolding update log append with_cells
  o_update x v id src k r e o =
      o_adds (change_of now x (value_of x e.cells) v) r _ (foreign_change x (value_of x e.cells) v)
      (o_adds (expiry_of now (cell_of x (put x v 1 e.cells))) r (with_cells (put x v 1 e.cells) e)
      (foreign_write (cell_of x (put x v 1 e.cells))) o)

  -- ---- a run's next action

  s_tested : (t : Truth) (r : Run) (e : Engine) → r.waiting ≡ none → O r e → S none_free (tested now t r e)
  unfolding tested uncertain
  s_tested Yes r e w o = unfold next_step at_once in (o_step now r e w o)
  s_tested No r e w o = s_finish r e o
  s_tested Unknown r e w o = s_finish r _ o

  s_chosen : (c : Option Actions) (src : Source) (r : Run) (e : Engine) → r.waiting ≡ none → O r e
      → S none_free (chosen now c src r e)
  unfolding chosen uncertain log_action log append
  s_chosen none src r e w o = s_finish r _ o
  s_chosen (some l) src r e w o = unfold next_step at_once in
      (o_step now (left (l then r.actions) r) _ w (o_like (l then r.actions) r.waiting r e o))

  s_perform : (f : Effect) (src : Source) (r : Run) (e : Engine) → r.waiting ≡ none → O r e
      → S none_free (perform now f src r e)
  unfolding perform write log_action log append go_on_after uncertain
  s_perform (Effect.set x v) src r e w o =
      unfold next_step at_once in (o_step now r _ w (o_update x v (some r.key.rule) (some src) Kind.action r e o))
  s_perform (toggle x) src r e w o = unfold next_step at_once in (o_step now r _ w flipped)
    where
      flipped : O r (flip now x src r e)
      flipped = unfold flip write uncertain in
          (if_prop (O r) (undecided (value_of x e.cells)) (λ _. o)
          (λ _. o_update x (toggled (value_of x e.cells)) (some r.key.rule) (some src) Kind.action r e o))
  s_perform (delay m) src r e w o = o_step (now + m) r _ w o
  s_perform (condition p) src r e w o = s_tested (evaluate (moment now e) p e.cells) r _ w o
  s_perform (choose bs d) src r e w o = s_chosen (select (moment now e) bs d e.cells) src r e w o
  s_perform (wait t s c) src r e w o = unfold begin_wait in
      (if_prop (S none_free) (absent t.note)
      (λ _. o_wait (record { trigger = t; deadline = now + s; continue = c; source = src }) r e o)
      (λ _. s_finish r _ o))
  s_perform (Effect.unknown reason) src r e w o = s_finish r _ o

  s_go_on : (l : Actions) (r : Run) (e : Engine) → r.waiting ≡ none → O r e → S none_free (go_on now l r e)
  unfolding go_on
  s_go_on done r e w o = s_finish r e o
  s_go_on (act src f rest) r e w o = s_perform f src (left rest r) _ w (o_like rest r.waiting r e o)

  -- ---- work for a run

  -- other runs are free if these are
  s_free : (p q : Run → Bool) (e : Engine) → Each (λ x. q x ≡ false → p x ≡ false) e.runs → S p e → S q e
  s_free p q e h s = record {
    order = s.order;
    good = each_both _ _ _ (λ x f g. record { fit = g.fit; due = λ z. g.due (f z); soon = g.soon }) e.runs h
        s.good;
    line = s.line;
    meant = s.meant;
    kept = s.kept;
  }

  -- the run that work is for
  opened : (k : Key) (r : Run) (e : Engine) → find (same_run k) e.runs ≡ some r → r.queued ≡ false
      → steps_in k e.queue ≡ 0 → S (same_run k) e → O r e
  opened k r e p q z s = record {
    sound = subst (λ (j : Key). S (same_run j) e) (sym same) s;
    sole = only_found (same_run k) e.runs r s.order p;
    there = tally_found (goes r.key) (same_run k) e.runs r p (unfold goes in (rw (own_key r, q)));
    spent = subst (λ (j : Key). steps_in j e.queue ≡ 0) (sym same) z;
    given = mine.fit.old;
    free = q;
    called_now = λ c. mine.soon c q;
  }
    where
      same : r.key ≡ k
      same = key_is k r (found_is (same_run k) e.runs r p)

      mine : Good now called (same_run k r) e.made e.queue r
      mine = each_found (λ x. Good now called (same_run k x) e.made e.queue x) (same_run k) e.runs r s.good p

  -- no run has the key
  nobody_there : (k : Key) (l : List Run) → find (same_run k) l ≡ none → Each (λ x. same_run k x ≡ false) l
  nobody_there k l p = none_each (same_run k) l (none_found (same_run k) l p)

  pub s_resume : (k : Key) (e : Engine) → S (same_run k) e
      → ((r : Run) → find (same_run k) e.runs ≡ some r → (acting r ≡ true) × (steps_in k e.queue ≡ 0))
      → S none_free (resume now k e)
  unfolding resume if_some
  s_resume k e s h = go (find (same_run k) e.runs) refl
    where
      go : (f : Option Run) → find (same_run k) e.runs ≡ f → S none_free (if_some (step now) f e)
      go none p = s_free (same_run k) none_free e (each_weak _ _ (λ x z _. z) e.runs (nobody_there k e.runs p)) s
      go (some r) p = unfold step in
          (if_prop (S none_free) (r.queued || not (absent r.waiting))
          (λ t. absurd (true≢false (sym t ∙ idle r.queued (absent r.waiting) (unfold acting in (h r p).0))))
          (λ t. s_go_on r.actions r e (open_wait r.waiting (or_not r.queued (absent r.waiting) t))
          (opened k r e p (or_no r.queued _ t) (h r p).1 s)))
        where
          idle : (q w : Bool) → not q && w ≡ true → q || not w ≡ false
          idle true w z = absurd (false≢true z)
          idle false true z = refl
          idle false false z = absurd (false≢true z)

          or_not : (q w : Bool) → q || not w ≡ false → w ≡ true
          or_not true w z = absurd (true≢false z)
          or_not false true z = refl
          or_not false false z = absurd (true≢false z)

          open_wait : (w : Option Waiting) → absent w ≡ true → w ≡ none
          open_wait none z = refl
          open_wait (some w) z = absurd (false≢true (unfold absent in z))

  -- its wait is over now
  abbrev pub late : Key → Run → Bool
  late k r = same_run k r && present_and (λ w. eqb w.deadline now) r.waiting

  pub s_time_out : (k : Key) (e : Engine) → S (late k) e
      → ((r : Run) → find (same_run k) e.runs ≡ some r → acting r ≡ false → steps_in k e.queue ≡ 0)
      → S none_free (time_out now k e)
  unfolding time_out if_some present_and
  s_time_out k e s h = go (find (same_run k) e.runs) refl
    where
      go : (f : Option Run) → find (same_run k) e.runs ≡ f → S none_free (if_some (end_wait now) f e)
      go none p =
          s_free (late k) none_free e (each_weak _ _ (λ x z _. rw z) e.runs (nobody_there k e.runs p)) s
      go (some r) p = unfold end_wait in (by r.waiting refl)
        where
          same : r.key ≡ k
          same = key_is k r (found_is (same_run k) e.runs r p)

          -- the wait isn't over now: nothing was due
          still : present_and (λ w. eqb w.deadline now) r.waiting ≡ false → S none_free e
          still z =
              s_free (late k) none_free e
              (each_weak _ _ (λ x u _. at x u (case (same_run k x))) e.runs
              (only_found (same_run k) e.runs r s.order p)) s
            where
              at : (x : Run) → (same_run r.key x ≡ true → x ≡ r) → Case (same_run k x) → late k x ≡ false
              at x u (is_false b) = rw b
              at x u (is_true b) =
                  subst (λ (y : Run). late k y ≡ false)
                  (sym (u (subst (λ (j : Key). same_run j x ≡ true) (sym same) b))) (no_and (same_run k r) _ z)
                where
                  no_and : (p q : Bool) → q ≡ false → p && q ≡ false
                  no_and true q w = w
                  no_and false q w = refl

          mine : Good now called (late k r) e.made e.queue r
          mine = each_found (λ x. Good now called (late k x) e.made e.queue x) (same_run k) e.runs r s.good p

          free : (w : Waiting) → r.waiting ≡ some w → (b : Bool) → r.queued ≡ b → r.queued ≡ false
          free w v true q = unfold absent in (absurd (false≢true (sym (ap absent v) ∙ mine.fit.rests q)))
          free w v false q = q

          ready : (w : Waiting) → r.waiting ≡ some w → O r e
          ready w v =
              opened k r e p (free w v r.queued refl)
              (h r p (unfold acting absent in (rw (v, free w v r.queued refl))))
              (s_free (late k) (same_run k) e (each_weak _ _ (λ x _ z. rw z) e.runs s.good) s)

          by : (w : Option Waiting) → r.waiting ≡ w → S none_free (if_some (λ w. wait_over now w r) w e)
          by none v = still (rw v)
          by (some w) v = unfold wait_over log_action log append in
              (if_prop (S none_free) (eqb w.deadline now)
              (λ _. if_prop (S none_free) w.continue
              (λ _. unfold next_step at_once in
              (o_step now (waits none r) _ refl (o_like r.actions none r _ (ready w v))))
              (λ _. s_finish r _ (ready w v)))
              (λ z. still (rw (v, z))))

  -- ---- the other work for no run

  pub s_stale : (free : Run → Bool) (x : Text) (n : ℕ) (e : Engine) → S free e → S free (go_stale now x n e)
  unfolding go_stale if_some
  s_stale free x n e s = go (cell_of x e.cells)
    where
      go : (o : Option Cell) → S free (if_some (expire now n) o e)
      go none = s
      go (some d) = unfold expire log append with_cells at_once in
          (if_prop (S free) (eqb d.version n && not (eq_t d.value (text "unknown")))
          (λ _. s_add free _ _ (foreign_item now d.name d.value (text "unknown")) s) (λ _. s))

  pub s_drop : (free : Run → Bool) (e : Engine) → S free e → S free (drop_runs now e)
  unfolding drop_runs with_runs log append keep
  s_drop free e s = record { order = tt; good = tt; line = line_none a.mode; meant = s.meant; kept = s.kept }

  -- ---- a change

  step_is_run : (at : ℕ) (k : Key) (y : Run) → steps k (next_step at y).work ≡ same_run k y
  unfolding next_step at_once steps same_key same_run
  step_is_run at k y = refl

  steps_in_is : (k : Key) (l : List Item) → steps_in k l ≡ tally (λ i. steps k i.work) l
  unfolding steps_in
  steps_in_is k l = refl

  pub s_wake : (x from to : Text) (e : Engine) → S none_free e → S none_free (wake now x from to e)
  unfolding wake with_runs
  s_wake x from to e s =
      more (Sound a now called base none_free) items (with_runs (each (woken x from to) e.runs) e) (record {
        order = order_each (woken x from to) same_key_woken e.runs s.order;
        good =
            each_to _ _ (woken x from to) (λ r h. h) e.runs
            (each_both _ _ (λ r. Good now called false e.made (e.queue ++ items) (woken x from to r))
            (λ r n g. by r (counted r n) g (case (awaits x from to r))) e.runs
            (once_at (awaits x from to) e.runs s.order) s.good);
        line =
            subst (InLine a.mode) (sym (keep_each (of_rule a.id) (of_rule a.id) (woken x from to)
            (λ r. unfold of_rule in (ap (λ (k : Key). eq_t k.rule a.id) (same_key_woken r))) e.runs))
            (line_each a.mode (woken x from to) (keep (of_rule a.id) e.runs)
            (flags (keep (of_rule a.id) e.runs)) s.line);
        meant =
            each_join (λ i. Meant e.made i.work) e.queue items s.meant
            (each_to (λ (r : Run). Given e.made r.key) (λ i. Meant e.made i.work) (next_step now)
            (λ r h. unfold next_step at_once in h) (keep (awaits x from to) e.runs)
            (each_keep _ (awaits x from to) e.runs (each_weak _ _ (λ r g. g.fit.old) e.runs s.good)));
        kept = grown_more base e.queue items s.kept;
      })
    where
      items : List Item
      items = each (next_step now) (keep (awaits x from to) e.runs)

      same_key_woken : (r : Run) → (woken x from to r).key ≡ r.key
      same_key_woken r = unfold woken in
          (if_prop (λ (y : Run). y.key ≡ r.key) (awaits x from to r) (λ _. refl) (λ _. refl))

      flags : (l : List Run) → Each (λ r. (woken x from to r).queued ≡ r.queued) l
      flags [] = tt
      flags (r ∷ l) = (
        unfold woken in (if_prop (λ (y : Run). y.queued ≡ r.queued) (awaits x from to r) (λ _. refl) (λ _. refl)),
        flags l,
      )

      -- one step for the run, if it waited for this change
      counted : (r : Run) → tally (λ y. awaits x from to y && same_run r.key y) e.runs ≡ one (awaits x from to r)
          → steps_in r.key items ≡ one (awaits x from to r)
      counted r n = steps_in_is r.key items ∙
          (tally_each (λ i. steps r.key i.work) (next_step now) (keep (awaits x from to) e.runs)
          ∙ tally_same (λ y. steps r.key (next_step now y).work) (same_run r.key)
          (step_is_run now r.key)
          (keep (awaits x from to) e.runs)
          ∙ tally_keep (same_run r.key) (awaits x from to) e.runs
          ∙ n)

      by : (r : Run) → steps_in r.key items ≡ one (awaits x from to r) → Good now called false e.made e.queue r
          → Case (awaits x from to r) → Good now called false e.made (e.queue ++ items) (woken x from to r)
      by r n g (is_false b) = unfold woken in (rw b (record {
        fit = g.fit;
        due = λ f. record {
          step = omega (arith, steps_more r.key e.queue items, n, ap one b, (g.due f).step);
          timeout = λ w p. omega (arith, timeouts_more w.deadline r.key e.queue items, (g.due f).timeout w p);
        };
        soon = λ c p. omega (arith, steps_at_more now r.key e.queue items, g.soon c p);
      }))
      by r n g (is_true b) = unfold woken in (rw b (record {
        fit = record { old = g.fit.old; rests = λ _. unfold absent in refl };
        due = λ f. record {
          step =
              omega (
                arith,
                steps_more r.key e.queue items,
                n,
                ap one b,
                (g.due f).step,
                ap one rested,
                ap one acts,
              );
          timeout = λ w p. absurd (none_some p);
        };
        soon = λ c p. omega (arith, steps_at_more now r.key e.queue items, g.soon c p);
      }))
        where
          waited : absent r.waiting ≡ false
          waited = at r.waiting (unfold awaits in b)
            where
              at : (w : Option Waiting) → present_and (λ w. matches x from to w.trigger) w ≡ true → absent w ≡ false
              at none z = absurd (false≢true (unfold present_and in z))
              at (some w) z = unfold absent in refl

          idle : (q : Bool) {w : Bool} → w ≡ false → not q && w ≡ false
          idle true h = refl
          idle false h = h

          rested : acting r ≡ false
          rested = unfold acting in (idle r.queued waited)

          executes : (q : Bool) → r.queued ≡ q → r.queued ≡ false
          executes true p = absurd (true≢false (sym (g.fit.rests p) ∙ waited))
          executes false p = p

          acts : acting (waits none r) ≡ true
          acts = unfold acting absent in (rw (executes r.queued refl))

  -- a new run, which was not called
  pub s_begin : (r : Automation) (later : Bool) (e : Engine) → S none_free e
      → called (fresh_run r later e.made).key ≡ false
      → (eq_t r.id a.id ≡ true
      → InLine a.mode (keep (of_rule a.id) e.runs ++ fresh_run r later e.made ∷ []))
      → S none_free (begin now r later e)
  unfolding begin log_rule log append add_run fresh_run
  s_begin r later e s c line = more (Sound a now called base none_free) items _ (record {
    order = order_end e.runs new s.order (each_weak _ (λ y. Later y new) before e.runs s.good);
    good =
        each_end (λ y. Good now called false made (e.queue ++ items) y) e.runs new
        (each_weak _ _ older e.runs s.good) newest;
    line =
        subst (InLine a.mode) (sym (keep_append (of_rule a.id) e.runs (new ∷ [])))
        (in_line_now (case (eq_t r.id a.id)));
    meant =
        each_join (λ i. Meant made i.work) e.queue items
        (each_weak _ _ (λ i h. still i.work h) e.queue s.meant) (its later);
    kept = grown_more base e.queue items s.kept;
  })
    where
      new : Run
      new = fresh_run r later e.made

      made : List Text
      made = e.made ++ r.id ∷ []

      items : List Item
      items = if later then [] else next_step now new ∷ []

      before : (y : Run) → Good now called false e.made e.queue y → Later y new
      before y g = unfold fresh_run in
          (λ p. subst (λ (z : Text). y.key.sequence < tally (eq_t z) e.made) p g.fit.old)

      grown : (k : Key) → Given e.made k → Given made k
      grown k h = omega (arith, h, tally_end (eq_t k.rule) e.made r.id)

      given : Given made new.key
      given = unfold fresh_run in (omega (arith, tally_end (eq_t r.id) e.made r.id, ap one (eq_t_same r.id)))

      unused : Given e.made new.key → ⊥
      unused h = unfold fresh_run in (omega (arith, h))

      -- no key given so far is the new one
      fresh : (k : Key) → Given e.made k → same_key k new.key ≡ false
      fresh k h = by (case (same_key k new.key))
        where
          by : Case (same_key k new.key) → same_key k new.key ≡ false
          by (is_false b) = b
          by (is_true b) =
              let z : Given e.made new.key = subst (Given e.made) (keys_eq k new.key b) h in
              absurd (unused z)

      unmeant : (w : Work) → Meant e.made w → steps new.key w ≡ false
      unmeant (Work.external i) h = unfold steps in refl
      unmeant (Work.changed x from to) h = unfold steps in refl
      unmeant (Work.resume k) h = unfold steps in (fresh k h)
      unmeant (Work.timeout k) h = unfold steps in refl
      unmeant (Work.stale x n) h = unfold steps in refl

      still : (w : Work) → Meant e.made w → Meant made w
      still (Work.external i) h = tt
      still (Work.changed x from to) h = tt
      still (Work.resume k) h = grown k h
      still (Work.timeout k) h = grown k h
      still (Work.stale x n) h = tt

      its : (b : Bool) → Each (λ i. Meant made i.work) (if b then [] else next_step now new ∷ [])
      its true = tt
      its false = (unfold next_step at_once in given, tt)

      missed : (y : Run) → Given e.made y.key → (b : Bool)
          → steps_in y.key (if b then [] else next_step now new ∷ []) ≡ 0
      missed y h true = unfold steps_in tally in refl
      missed y h false = unfold steps_in tally next_step at_once steps in (rw (unlike (case (same_key new.key y.key))))
        where
          unlike : Case (same_key new.key y.key) → same_key new.key y.key ≡ false
          unlike (is_false b) = b
          unlike (is_true b) =
              let z : Given e.made new.key = subst (Given e.made) (sym (keys_eq new.key y.key b)) h in
              absurd (unused z)

      older : (y : Run) → Good now called false e.made e.queue y → Good now called false made (e.queue ++ items) y
      older y g = record {
        fit = record { old = grown y.key g.fit.old; rests = g.fit.rests };
        due = λ f. record {
          step =
              omega (arith, steps_more y.key e.queue items, missed y g.fit.old later, (g.due f).step);
          timeout = λ w p. omega (arith, timeouts_more w.deadline y.key e.queue items, (g.due f).timeout w p);
        };
        soon = λ d p. omega (arith, steps_at_more now y.key e.queue items, g.soon d p);
      }

      none_yet : steps_in new.key e.queue ≡ 0
      none_yet = unfold steps_in in
          (tally_none (λ i. Meant e.made i.work) (λ i. steps new.key i.work) (λ i h. unmeant i.work h)
          e.queue s.meant)

      its_step : (b : Bool) → steps_in new.key (if b then [] else next_step now new ∷ []) ≡ one (not b)
      its_step true = unfold steps_in tally in refl
      its_step false = unfold steps_in tally next_step at_once steps in (rw (keys_same new.key))

      acts : acting new ≡ not later
      acts = unfold acting fresh_run absent in (both (not later))
        where
          both : (b : Bool) → b && true ≡ b
          both true = refl
          both false = refl

      waitless : none ≡ new.waiting
      waitless = unfold fresh_run in refl

      newest : Good now called false made (e.queue ++ items) new
      newest = record {
        fit = record { old = given; rests = λ _. unfold fresh_run absent in refl };
        due = λ _. record {
          step = omega (arith, steps_more new.key e.queue items, none_yet, its_step later, ap one acts);
          timeout = λ w p. absurd (none_some (waitless ∙ p));
        };
        soon = λ d p. absurd (true≢false (sym d ∙ c));
      }

      own : of_rule a.id new ≡ eq_t r.id a.id
      own = unfold of_rule fresh_run in refl

      in_line_now : Case (eq_t r.id a.id)
          → InLine a.mode (keep (of_rule a.id) e.runs ++ keep (of_rule a.id) (new ∷ []))
      in_line_now (is_true t) = unfold keep in (rw (own ∙ t) (line t))
      in_line_now (is_false t) = unfold keep in
          (rw (own ∙ t) (subst (InLine a.mode) (sym (append-nil (keep (of_rule a.id) e.runs))) s.line))
