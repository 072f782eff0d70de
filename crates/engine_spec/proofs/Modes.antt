-- At every moment of a simulation an automation has at most as many runs as its mode and `max` allow.
-- What a trigger comes to by the mode.
use Rattle.std.specs.Prelude.{if◌then◌else◌}
use Prim.Native.Nat.{ℕ, zero, suc, ◌+◌, ◌≤◌, ◌<◌}
use mathlib.Core.Path.{◌≡◌, refl}
use mathlib.Core.Logic.{◌⊎◌, inl, inr}
use mathlib.Core.Bool.{Bool, true, false, ◌||◌}
use mathlib.Core.List.{List, [], ◌∷◌, ◌++◌}
use native.Mathlib.Omega.{arith}
use Rattle.texts.specs.Lists.{◌▸◌, any, tally}
use Rattle.texts.specs.Texts.{Text, eq_t}
use Rattle.model_spec.specs.Model.{Moment, Mode, single, queued, parallel, Automation, Event}
use Rattle.engine_spec.specs.Cells.{Cell}
use Rattle.engine_spec.specs.Modes.{already_running, max_reached, start, wait_in_line, decide, most}
use Rattle.engine_spec.specs.Reasons.{space_spent, steps_spent}
use Rattle.engine_spec.specs.Records.{Work, Item, Areas, Engine}
use Rattle.engine_spec.specs.Changes.{append, add_run, with_queue}
use Rattle.engine_spec.specs.Engine.{
  of_rule,
  left,
  fresh_run,
  ◌then◌,
  next_step,
  log,
  log_rule,
  begin,
  process,
  pop,
  Next,
  stop,
  exhausted,
  take,
  next_of,
  Ended,
  loop,
  begun,
}
use Rattle.engine_spec.proofs.Lists.{le-leb, lt-leb, eq_t_same, each_weak}
use Rattle.engine_spec.proofs.Keeps.{Within, Kept, q_adds, known_in, Only, Knows, begun_keeps, process_keeps}

-- ---- the moments of a simulation

-- where a simulation may be: at its start, and after any item of work
pub data Reached (rules : List Automation) : Engine → Type 0 where
  at_start : (areas : Areas) (origin : Moment) (cells : List Cell) (notes : List Text) (events : List Event)
      → Reached rules (begun areas origin cells notes events)
  after : {e : Engine} (now : ℕ) (queue : List Item) (w : Work) → Reached rules e
      → Reached rules (process now rules w (with_queue queue e))

-- the loop goes through such moments only, however many steps it has
pub loop_reaches : (rules : List Automation) (horizon left steps : ℕ) (e : Engine) → Reached rules e
    → Reached rules (loop rules horizon left steps e).engine
unfolding loop
loop_reaches rules h zero n e r = go (next_of h e (pop e.queue))
  where
    go : (x : Next) → Reached rules (◌▸◌ {A = Ended} (elim x [
      | stop ↦ record { engine = e; steps = n; incomplete = [] }
      | exhausted ↦ record { engine = e; steps = n; incomplete = space_spent ∷ [] }
      | take i l ↦ record { engine = e; steps = n; incomplete = steps_spent ∷ [] }
    ]) (λ (d : Ended). d.engine))
    go stop = r
    go exhausted = r
    go (take i l) = r
loop_reaches rules h (suc m) n e r = go (next_of h e (pop e.queue)) (λ s. loop_reaches rules h m (n + 1) s)
  where
    go : (x : Next) → ((s : Engine) → Reached rules s → Reached rules (loop rules h m (n + 1) s).engine)
        → Reached rules (◌▸◌ {A = Ended} (elim x [
          | stop ↦ record { engine = e; steps = n; incomplete = [] }
          | exhausted ↦ record { engine = e; steps = n; incomplete = space_spent ∷ [] }
          | take i l ↦ loop rules h m (n + 1) (e ▸ with_queue l ▸ process i.at rules i.work)
        ]) (λ (d : Ended). d.engine))
    go stop f = r
    go exhausted f = r
    go (take i l) f = f _ (after i.at l i.work r)

pub all_known : (rules : List Automation) → Knows (known_in rules) rules
unfolding known_in any
all_known [] = tt
all_known (r ∷ l) = (
  rw (eq_t_same r.id),
  each_weak (λ (s : Automation). any (λ z. eq_t s.id z.id) l ≡ true) _
      (λ s h. by (eq_t s.id r.id) h) l (all_known l),
)
  where
    by : (b : Bool) {c : Bool} → c ≡ true → b || c ≡ true
    by true h = refl
    by false h = h

-- the invariant holds at each of them
pub reached_keeps : (a : Automation) (rules : List Automation) {e : Engine} → Only a rules → Reached rules e
    → Kept (known_in rules) a e.runs e.made
unfolding with_queue
reached_keeps a rules u (at_start areas origin cells notes events) =
    begun_keeps (known_in rules) a areas origin cells notes events
reached_keeps a rules u (after {e} now l w r) =
    process_keeps (known_in rules) a now rules w (with_queue l e) (all_known rules) u (reached_keeps a rules u r)

-- ---- the page's statements, at each moment of a simulation

module _ (a : Automation) (rules : List Automation) (only : Only a rules) (e : Engine) (reached : Reached rules e) where
  here : Within a e.runs
  here = (reached_keeps a rules only reached).within

  -- single: never two runs
  pub single_one : a.mode ≡ single → tally (of_rule a.id) e.runs ≤ 1
  single_one m = unfold most in (rw m at here.bound)

  -- restart: never two runs
  pub restart_one : a.mode ≡ Mode.restart → tally (of_rule a.id) e.runs ≤ 1
  restart_one m = unfold most in (rw m at here.bound)

  -- queued: at most `max`, executing or queued
  pub queued_max : a.mode ≡ queued → tally (of_rule a.id) e.runs ≤ a.max
  queued_max m = unfold most in (rw m at here.bound)

  -- parallel: at most `max`
  pub parallel_max : a.mode ≡ parallel → tally (of_rule a.id) e.runs ≤ a.max
  parallel_max m = unfold most in (rw m at here.bound)

-- ---- what becomes of a trigger whose conditions are met, by the mode and the number of runs

pub decide_single : (max n : ℕ) → 1 ≤ n → decide single max n ≡ already_running
unfolding decide
decide_single max zero h = absurd (omega arith)
decide_single max (suc n) h = refl

pub decide_full : (mode : Mode) → (mode ≡ queued) ⊎ (mode ≡ parallel) → (max n : ℕ) → max ≤ n
    → decide mode max n ≡ max_reached
unfolding decide
decide_full mode (inl m) max zero h = rw (m, le-leb max zero h)
decide_full mode (inl m) max (suc n) h = rw (m, le-leb max (suc n) h)
decide_full mode (inr m) max n h = rw (m, le-leb max n h)

pub decide_queued : (max n : ℕ) → 1 ≤ n → n < max → decide queued max n ≡ wait_in_line
unfolding decide
decide_queued max zero h k = absurd (omega arith)
decide_queued max (suc n) h k = rw (lt-leb max (suc n) (omega arith))

pub decide_parallel : (max n : ℕ) → n < max → decide parallel max n ≡ start
unfolding decide
decide_parallel max n h = rw (lt-leb max n (omega arith))

pub decide_none : (mode : Mode) (max : ℕ) → 1 ≤ max → decide mode max zero ≡ start
unfolding decide
decide_none single max h = refl
decide_none Mode.restart max h = refl
decide_none queued max h = rw (lt-leb max zero h)
decide_none parallel max h = rw (lt-leb max zero h)

pub begin_runs : (now : ℕ) (a : Automation) (later : Bool) (e : Engine)
    → (begin now a later e).runs ≡ e.runs ++ fresh_run a later e.made ∷ []
unfolding begin log_rule log append add_run
begin_runs now a later e =
    q_adds (λ l made. l ≡ e.runs ++ fresh_run a later e.made ∷ [])
    (if later then [] else next_step now (fresh_run a later e.made) ∷ []) _ refl
