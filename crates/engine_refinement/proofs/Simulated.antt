-- A whole simulation: from the beginning machine through the loop to its end, the machine stands for the definition's
-- engine. `ended_is` is the statement that the code's contracts and the definition `ended` meet in.
use Rattle.std.specs.Prelude.{if◌then◌else◌}
use mathlib.Core.Path.{◌≡◌, refl, sym, ap, ◌∙◌, subst}
use mathlib.Core.List.{List, [], ◌∷◌, ◌++◌, append-nil, append_assoc}
use mathlib.Core.Bool.{Bool, true, false}
use mathlib.Core.Option.{none, some}
use Prim.Native.Nat.{ℕ, zero, suc, ◌+◌, ◌*◌, ◌≤◌, ◌<◌}
use native.Mathlib.Omega.{arith}
use lib.ListN.{length, get_or, take}
use lib.Seq.{take-suc, take_all}
use lib.Dec.{ltb, eqb}
use borrow.Author.Tests.{eqb-true, eqb-false}
use Rattle.texts.specs.Lists.{any, flat, each, tally, through}
use Rattle.texts.specs.Texts.{Text, mem_t, insert_t, sorted_t}
use Rattle.texts.proofs.Ordering.{Before, Three, three, trans, eq_no}
use Rattle.texts.proofs.Ordering as ordering
use Rattle.reasons.proofs.Sorting.{in_front, already, further, alone}
use Rattle.model_spec.specs.Model.{Event, Automation, Model}
use Rattle.queue.specs.declared.Work.{Work as QWork}
use Rattle.engine_spec.specs.Cells.{Cell}
use Rattle.engine_spec.specs.Records.{Item, Kind, Run, Areas, Engine}
use Rattle.engine_spec.specs.Words.{kind_number, detail_number}
use Rattle.engine_spec.specs.Changes.{add, append, adds}
use Rattle.engine_spec.specs.Unsupported.{unsupported, rule_reasons}
use Rattle.engine_spec.specs.Reasons.{space_spent, steps_spent, runs_left}
use Rattle.engine_spec.specs.Engine.{log, expiry, event_item, begun, Ended, left_over, last_record, closed}
use Rattle.engine_spec.specs.Simulate.{ended}
use Rattle.engine_spec.proofs.Lists.{Each}
use Rattle.engine_spec.proofs.Closed.{end_closed, c_adds}
use Rattle.model_walk.proofs.Found.{Case, is_true, is_false, case}
use Rattle.engine_fields.specs.Fields.{stale, entities}
use Rattle.engine_state.specs.Machine.{Machine, put_now}
use Rattle.engine_state.specs.Changes.{add_m, log_m, log_plain_m}
use Rattle.engine_update.specs.Update.{expiry_m}
use Rattle.engine_schedule.specs.Events.{event_m, add_event_m, add_events_m, expiries_m, add_expiries_m, begun_m}
use Rattle.engine_loop.specs.Loop.{Halt, halt, loop_m, horizon_m, closed_m}
use Rattle.engine_refinement.specs.Meaning.{kind_of, item_of, cell_at, cells_from, cells_of, meant_run, pool_of, Tabled}
use Rattle.engine_refinement.specs.Events.{Among}
pub use Rattle.engine_refinement.specs.Events.{EventAt}
use Rattle.engine_refinement.proofs.Evaluate.{Valued, entities_are}
use Rattle.engine_refinement.proofs.Full.{Stuck, s_add, s_expiry, s_log_plain}
use Rattle.engine_refinement.proofs.Overflow.{overflow_stays}
use Rattle.engine_refinement.proofs.Pigeonhole.{Differ}
use Rattle.engine_refinement.proofs.Pool.{mem_left, among_to, among_self}
use Rattle.engine_refinement.proofs.Relation.{Live, Sim, live, dead, follow, add_is}
use Rattle.engine_refinement.proofs.Words.{Tells}
use Rattle.engine_refinement.proofs.Update.{Over, log_plain_is, expiry_is}
use Rattle.engine_refinement.proofs.Loop.{reasons_of, Ends, lives, stuck, loop_is}
use Rattle.engine_refinement.proofs.Lists as lists
use Rattle.engine_refinement.proofs.Triggers.{adds_end}

-- ---- the static reasons: no doubles, for they are sorted

abbrev Sorted : List Text → Type 0
Sorted [] = Unit {0}
Sorted (t ∷ l) = Each (Before t) l × Sorted l

each_insert : (P : Text → Type 0) (t : Text) (l : List Text) → P t → Each P l → Each P (insert_t t l)
each_insert P t [] p h = rw (alone t) (p, tt)
each_insert P t (y ∷ l) p h = by (three t y) (each_insert P t l p h.1)
  where
    by : Three t y → Each P (insert_t t l) → Each P (insert_t t (y ∷ l))
    by (ordering.lt q) r = rw (in_front l q) (p, h)
    by (ordering.eq q) r = rw (q, already y l) h
    by (ordering.gt q) r = rw (further l q) (h.0, r)

each_before : (s t : Text) (l : List Text) → Before s t → Each (Before t) l → Each (Before s) l
each_before s t [] p h = tt
each_before s t (y ∷ l) p h = (trans p h.0, each_before s t l p h.1)

insert_sorted : (t : Text) (l : List Text) → Sorted l → Sorted (insert_t t l)
insert_sorted t [] h = rw (alone t) (tt, tt)
insert_sorted t (y ∷ l) h = by (three t y) (insert_sorted t l h.1)
  where
    by : Three t y → Sorted (insert_t t l) → Sorted (insert_t t (y ∷ l))
    by (ordering.lt q) r = rw (in_front l q) ((q, each_before t y l q h.0), h)
    by (ordering.eq q) r = rw (q, already y l) h
    by (ordering.gt q) r = rw (further l q) (each_insert (Before y) t l q h.0, r)

sorted_sorted : (l : List Text) → Sorted (sorted_t l)
unfolding sorted_t
sorted_sorted [] = tt
sorted_sorted (t ∷ l) = insert_sorted t (sorted_t l) (sorted_sorted l)

not_among : (t : Text) (l : List Text) → Each (Before t) l → mem_t t l ≡ false
unfolding mem_t any
not_among t [] h = refl
not_among t (y ∷ l) h = rw (eq_no h.0) (not_among t l h.1)

sorted_differ : (l : List Text) → Sorted l → Differ l
sorted_differ [] h = tt
sorted_differ (t ∷ l) h = (not_among t l h.0, sorted_differ l h.1)

pub static_differ : (rules : List Automation) → Differ (unsupported rules)
unfolding unsupported
static_differ rules = sorted_differ (sorted_t (flat rule_reasons rules)) (sorted_sorted (flat rule_reasons rules))

pub static_among : (mo : Model) → Among (pool_of mo) (unsupported mo.rules)
unfolding pool_of
static_among mo =
    among_to (unsupported mo.rules) (unsupported mo.rules) _ (λ t h. mem_left t (unsupported mo.rules) _ h)
    (among_self (unsupported mo.rules))

module _ (f x : List ℕ) (ts : List Text) (mo : Model) (tb : Tabled f x ts mo) where
  abbrev L : ℕ → ℕ → Machine → Engine → Type 0
  L = Live f x ts mo tb

  abbrev S : ℕ → ℕ → Machine → Engine → Type 0
  S = Sim f x ts mo tb

  abbrev horizon : ℕ
  horizon = mo.scenario.limits.horizon

  -- at most 10,000 steps, with at most 32 runs begun at each
  abbrev most : ℕ
  most = 320000

  -- the machine before a simulation with these areas and cells
  pub record Beginning (m : Machine) (areas : Areas) (cells : List Cell) : Type 0 where
    pub now : m.now ≡ 0
    pub full : m.«overflow» ≡ 0
    pub made : m.runs_created ≡ 0
    pub sequences : (i : ℕ) → get_or m.sequences i 0 ≡ 0
    pub sequences_long : length m.sequences ≡ 32
    pub cells_are : cells ≡ cells_of x ts m.values m.versions
    pub valued : Valued f x ts mo tb m.values
    pub versions : (e : ℕ) → get_or m.versions e 0 ≡ 0
    pub versions_long : length m.versions ≡ 32
    pub queue : m.queue ≡ []
    pub records : m.records ≡ []
    pub runs : m.runs ≡ []
    pub reasons : m.reasons ≡ unsupported mo.rules
    pub queue_size_lem : m.queue_size ≡ areas.queue
    pub record_size_lem : m.record_size ≡ areas.records
    pub run_size_lem : m.run_size ≡ areas.runs

  abbrev empty : Areas → List Cell → Engine
  empty areas cells = record {
    cells = cells;
    queue = [];
    runs = [];
    made = [];
    trace = [];
    unknown =
        unsupported mo.rules;
    overflow = none;
    areas = areas;
    start = mo.start;
  }

  start_is : (m : Machine) (areas : Areas) (cells : List Cell) → Beginning m areas cells → L 0 most m (empty areas cells)
  unfolding each tally
  start_is m areas cells b = record {
    time = b.now;
    soon = omega arith;
    free = b.full;
    calm = refl;
    queue = record { is = rw b.queue; good = rw b.queue tt };
    records = record { is = rw b.records; words = rw b.records tt };
    runs = record { is = rw b.runs; good = rw b.runs tt; order = tt };
    cells = record { is = b.cells_are; valued = b.valued; long = b.versions_long };
    reasons = record { is = b.reasons; differ = static_differ mo.rules; among = static_among mo };
    made = record { count = b.made; long = b.sequences_long; each_rule = λ i h. b.sequences i };
    low = record { made_low = omega (arith, b.made); version_low = λ e. omega (arith, b.versions e) };
    sizes = record { queue = b.queue_size_lem; records_are = b.record_size_lem; runs = b.run_size_lem };
    start = refl;
  }

  initial : Tells f x ts mo tb 0 0 Kind.initial
  unfolding kind_of kind_number detail_number
  initial = record { is = refl; number = refl; detail = refl }

  last : Tells f x ts mo tb 9 0 Kind.horizon
  unfolding kind_of kind_number detail_number
  last = record { is = refl; number = refl; detail = refl }

  adds_both : (l k : List Item) (e : Engine) → adds (l ++ k) e ≡ adds k (adds l e)
  unfolding adds through
  adds_both [] k e = refl
  adds_both (j ∷ l) k e = adds_both l k (add j e)

  -- ---- the events

  event_is : {m : Machine} {e : Engine} → L 0 most m e → (l : List ℕ) (i : ℕ) (v : Event) → EventAt f x ts mo l i v →
      S 0 most (add_event_m l i m) (add (event_item v) e)
  unfolding add_event_m event_item item_of
  event_is {m} {e} l k i v a =
      let w = event_m (get_or k (i * 4 + 1) 0) (get_or k (i * 4 + 2) 0) (get_or k (i * 4 + 3) 0) in
      rw (← a.second, ← a.work) (add_is f x ts mo tb l (get_or k (i * 4) 0) w a.good)

  add_event_stuck : (l : List ℕ) (i n : ℕ) (m : Machine) → (n ≡ 0 → ⊥) → Stuck n m → Stuck n (add_event_m l i m)
  unfolding add_event_m
  add_event_stuck l i n m z p = s_add n z _ _ m p

  events_are : (l : List ℕ) (d : Event) (vs : List Event) →
      ((i : ℕ) → i < length vs → EventAt f x ts mo l i (get_or vs i d)) →
      (n : ℕ) → n ≤ length vs → {m : Machine} {e : Engine} → S 0 most m e →
      S 0 most (add_events_m l n m) (adds (each event_item (take n vs)) e)
  unfolding add_events_m each adds through
  events_are l d vs h zero o s = s
  events_are l d vs h (suc n) o {m} {e} s =
      let y : each event_item (take (suc n) vs) ≡ each event_item (take n vs) ++ event_item (get_or vs n d) ∷ [] =
      ap (each event_item) (take-suc vs n d o) ∙ lists.each_one event_item (take n vs) (get_or vs n d) in
      subst (S 0 most (add_event_m l n (add_events_m l n m)))
      (sym (ap (λ (k : List Item). adds k e) y ∙ adds_end (each event_item (take n vs)) (event_item (get_or vs n d)) e))
      (follow f x ts mo tb (add_event_m l n) (add (event_item (get_or vs n d))) (events_are l d vs h n (omega arith) s)
      (λ k. event_is k l n (get_or vs n d) (h n o))
      (λ i z p. add_event_stuck l n i _ z p)
      (λ i q. (overflow_stays i).on_add _ _ q))

  -- ---- the expiries of the values at the start

  record Same (m k : Machine) : Type 0 where
    values : k.values ≡ m.values
    versions : k.versions ≡ m.versions

  add_same : (s : ℕ) (w : QWork) (m : Machine) → Same m (add_m s w m)
  unfolding add_m
  add_same s w m =
      by (eqb m.«overflow» 0) (ltb (length m.queue) m.queue_size) _ _ (record { values = refl; versions = refl })
      (record { values = refl; versions = refl })
    where
      by : (a b : Bool) (p q : Machine) → Same m p → Same m q → Same m (if a then (if b then p else q) else m)
      by true true p q g h = g
      by true false p q g h = h
      by false b p q g h = record { values = refl; versions = refl }

  expiry_same : (e : ℕ) (m : Machine) → Same m (expiry_m x e m)
  unfolding expiry_m
  expiry_same e m = by (eqb (stale x e) 4294967295) _ (add_same _ _ m)
    where
      by : (a : Bool) (p : Machine) → Same m p → Same m (if a then m else p)
      by true p h = record { values = refl; versions = refl }
      by false p h = h

  expiries_same : (n : ℕ) (m : Machine) → Same m (expiries_m x n m)
  unfolding expiries_m
  expiries_same zero m = record { values = refl; versions = refl }
  expiries_same (suc n) m =
      let a = expiries_same n m in
      let b = expiry_same n (expiries_m x n m) in
      record { values = b.values ∙ a.values; versions = b.versions ∙ a.versions }

  cells_more : (vs ns : List ℕ) (n e : ℕ) →
      cells_from x ts vs ns (suc n) e ≡ cells_from x ts vs ns n e ++ cell_at x ts vs ns (e + n) ∷ []
  unfolding cells_from
  cells_more vs ns zero e = let z : e + 0 ≡ e = omega arith in ap (λ (i : ℕ). cell_at x ts vs ns i ∷ []) (sym z)
  cells_more vs ns (suc n) e = let z : e + 1 + n ≡ e + suc n = omega arith in
      ap (λ (l : List Cell). cell_at x ts vs ns e ∷ l)
      (cells_more vs ns n (e + 1) ∙ ap (λ (i : ℕ). cells_from x ts vs ns n (e + 1) ++ cell_at x ts vs ns i ∷ []) z)

  flat_end : (l : List Cell) (c : Cell) → flat (expiry 0) (l ++ c ∷ []) ≡ flat (expiry 0) l ++ expiry 0 c
  unfolding flat
  flat_end [] c = append-nil (expiry 0 c)
  flat_end (y ∷ l) c =
      ap (λ (k : List Item). expiry 0 y ++ k) (flat_end l c)
      ∙ sym (append_assoc (expiry 0 y) (flat (expiry 0) l) (expiry 0 c))

  expiries_are : (vs ns : List ℕ) (n : ℕ) → n ≤ length mo.scenario.entities → {m : Machine} {e : Engine} →
      m.values ≡ vs → m.versions ≡ ns → S 0 most m e →
      S 0 most (expiries_m x n m) (adds (flat (expiry 0) (cells_from x ts vs ns n 0)) e)
  unfolding expiries_m flat adds through cells_from
  expiries_are vs ns zero o a b s = s
  expiries_are vs ns (suc n) o {m} {e} a b s =
      let z : 0 + n ≡ n = omega arith in
      let y : adds (flat (expiry 0) (cells_from x ts vs ns (suc n) 0)) e
      ≡ adds (expiry 0 (cell_at x ts vs ns n)) (adds (flat (expiry 0) (cells_from x ts vs ns n 0)) e) =
      ap (λ (l : List Cell). adds (flat (expiry 0) l) e)
      (cells_more vs ns n 0 ∙ ap (λ (i : ℕ). cells_from x ts vs ns n 0 ++ cell_at x ts vs ns i ∷ []) z)
      ∙ ap (λ (l : List Item). adds l e) (flat_end (cells_from x ts vs ns n 0) (cell_at x ts vs ns n))
      ∙ adds_both (flat (expiry 0) (cells_from x ts vs ns n 0)) (expiry 0 (cell_at x ts vs ns n)) e in
      let w = expiries_same n m in
      subst (S 0 most (expiry_m x n (expiries_m x n m))) (sym y)
      (follow f x ts mo tb (expiry_m x n) (adds (expiry 0 (cell_at x ts vs ns n))) (expiries_are vs ns n (omega arith) a b s)
      (λ k. at_cell n o _ _ (w.values ∙ a) (w.versions ∙ b) k)
      (λ i q p. s_expiry i q x n _ p)
      (λ i q. c_adds (Over i) (overflow_stays i) (expiry 0 (cell_at x ts vs ns n)) _ q))
    where
      at_cell : (n : ℕ) → n < length mo.scenario.entities → (k : Machine) (d : Engine) → k.values ≡ vs →
          k.versions ≡ ns → L 0 most k d → S 0 most (expiry_m x n k) (adds (expiry 0 (cell_at x ts vs ns n)) d)
      at_cell n o k d a b l =
          subst (λ (c : Cell). S 0 most (expiry_m x n k) (adds (expiry 0 c) d))
          (ap (λ (y : List ℕ). cell_at x ts y k.versions n) a ∙ ap (λ (y : List ℕ). cell_at x ts vs y n) b)
          (expiry_is f x ts mo tb l n o)

  -- ---- the beginning

  log_same : (k : ℕ) (m : Machine) → Same m (log_plain_m k m)
  unfolding log_plain_m log_m
  log_same k m =
      by (eqb m.«overflow» 0) (ltb (length m.records) m.record_size) _ _ (record { values = refl; versions = refl })
      (record { values = refl; versions = refl })
    where
      by : (a b : Bool) (p q : Machine) → Same m p → Same m q → Same m (if a then (if b then p else q) else m)
      by true true p q g h = g
      by true false p q g h = h
      by false b p q g h = record { values = refl; versions = refl }

  events_same : (l : List ℕ) (n : ℕ) (m : Machine) → Same m (add_events_m l n m)
  unfolding add_events_m add_event_m
  events_same l zero m = record { values = refl; versions = refl }
  events_same l (suc n) m =
      let a = events_same l n m in
      let b = add_same (get_or l (n * 4) 0) (event_m (get_or l (n * 4 + 1) 0) (get_or l (n * 4 + 2) 0) (get_or l (n * 4 + 3) 0))
      (add_events_m l n m) in
      record { values = b.values ∙ a.values; versions = b.versions ∙ a.versions }

  module _ (m : Machine) (areas : Areas) (cells : List Cell) (b : Beginning m areas cells) (l : List ℕ) (d : Event)
      (vs : List Event) (evs : (i : ℕ) → i < length vs → EventAt f x ts mo l i (get_or vs i d)) where
    first_record : S 0 most (log_plain_m 0 m) (log 0 Kind.initial none none none (empty areas cells))
    first_record =
        log_plain_is f x ts mo tb (start_is m areas cells b) 0 Kind.initial initial

    all_events : S 0 most (add_events_m l (length vs) (log_plain_m 0 m))
        (adds (each event_item vs) (log 0 Kind.initial none none none (empty areas cells)))
    all_events =
        subst
        (λ (k : List Event). S 0 most (add_events_m l (length vs) (log_plain_m 0 m))
        (adds (each event_item k) (log 0 Kind.initial none none none (empty areas cells))))
        (take_all (length vs) vs (omega arith)) (events_are l d vs evs (length vs) (omega arith) first_record)

    begun_is : S 0 most (begun_m x l (length vs) m) (begun areas mo.start cells (unsupported mo.rules) vs)
    unfolding begun_m add_expiries_m begun cells_of
    begun_is =
        let u = log_same 0 m in
        let w = events_same l (length vs) (log_plain_m 0 m) in
        subst
        (λ (k : List Cell). S 0 most (expiries_m x (entities x) (add_events_m l (length vs) (log_plain_m 0 m)))
        (adds (flat (expiry 0) k) (adds (each event_item vs) (log 0 Kind.initial none none none (empty areas cells)))))
        (sym b.cells_are)
        (expiries_are m.values m.versions (entities x) (omega (arith, entities_are f x ts mo tb))
        (w.values ∙ u.values) (w.versions ∙ u.versions) all_events)

  -- ---- the end

  -- the same steps, reasons, records, cells and runs; or the area that was full
  pub data Result (p : Halt) (d : Ended) (total : ℕ) : Type 0 where
    ends : (now : ℕ) → L now 0 p.last d.engine → d.steps + p.left ≡ total → p.stop_reason ≤ 2 →
        d.incomplete ≡ reasons_of p.stop_reason ++ left_over d.engine.runs → Result p d total
    full : (n : ℕ) → (n ≡ 0 → ⊥) → Stuck n p.last → d.engine.overflow ≡ some n → Result p d total

  pub runs_none : (rs : List Run) → length rs ≡ 0 → left_over rs ≡ []
  unfolding left_over
  runs_none [] h = refl
  runs_none (r ∷ rs) h = absurd (omega arith)

  pub runs_some : (rs : List Run) → (length rs ≡ 0 → ⊥) → left_over rs ≡ runs_left ∷ []
  unfolding left_over
  runs_some [] h = absurd (h refl)
  runs_some (r ∷ rs) h = refl

  closed_stuck : (n : ℕ) (p : Halt) → (n ≡ 0 → ⊥) → Stuck n p.last → Stuck n (closed_m x p).last
  unfolding closed_m horizon_m
  closed_stuck n p z h = by (eqb p.stop_reason 0) (eqb (length p.last.runs) 0)
    where
      by : (a b : Bool) →
          Stuck n
          (if a then (if b then halt (log_plain_m 9 (put_now (get_or x 2 0) p.last)) p.left 0 else p) else p).last
      by true true = s_log_plain n z 9 _ (record { is = h.is })
      by true false = h
      by false b = h

  -- something is left undone: nothing is added
  kept : (d : Ended) (t : Text) (l : List Text) → d.incomplete ++ left_over d.engine.runs ≡ t ∷ l →
      closed horizon d ≡ record {
        engine = d.engine;
        steps = d.steps;
        incomplete =
            d.incomplete ++ left_over d.engine.runs;
      }
  unfolding closed last_record
  kept d t l e =
      ap
      (λ (k : List Text). record {
        engine = last_record horizon k d.engine;
        steps = d.steps;
        incomplete =
            d.incomplete ++ left_over d.engine.runs;
      }) e

  all_done : (d : Ended) → d.incomplete ++ left_over d.engine.runs ≡ [] →
      closed horizon d ≡ record {
        engine = log horizon Kind.horizon none none none d.engine;
        steps = d.steps;
        incomplete = [];
      }
  unfolding closed last_record
  all_done d e =
      ap (λ (k : List Text). record { engine = last_record horizon k d.engine; steps = d.steps; incomplete = k }) e

  log_runs_same : (h : ℕ) (e : Engine) → (log h Kind.horizon none none none e).runs ≡ e.runs
  unfolding log append
  log_runs_same h e = refl

  module _ (p : Halt) (d : Ended) (total now : ℕ) (l : L now 0 p.last d.engine) (steps : d.steps + p.left ≡ total)
      (low : p.stop_reason ≤ 2) (told : d.incomplete ≡ reasons_of p.stop_reason) where
    long : length d.engine.runs ≡ length p.last.runs
    long = ap length l.runs.is ∙ lists.each_length (meant_run x ts f) p.last.runs

    at_horizon : L horizon 0 (put_now (get_or x 2 0) p.last) d.engine
    at_horizon = record {
      time = tb.horizon;
      soon = tb.day;
      free = l.free;
      calm = l.calm;
      queue = l.queue;
      records =
          l.records;
      runs = l.runs;
      cells = l.cells;
      reasons = l.reasons;
      made = l.made;
      low = l.low;
      sizes = l.sizes;
      start = l.start;
    }

    -- the machine stays, the definition too
    unchanged : closed_m x p ≡ p → (t : Text) (k : List Text) → d.incomplete ++ left_over d.engine.runs ≡ t ∷ k →
        Result (closed_m x p) (closed horizon d) total
    unchanged e t k o =
        rw (e, kept d t k o) (ends now l steps low (ap (λ (y : List Text). y ++ left_over d.engine.runs) told))

    other_why : eqb p.stop_reason 0 ≡ false → closed_m x p ≡ p
    unfolding closed_m
    other_why b = rw b

    other_runs : eqb (length p.last.runs) 0 ≡ false → closed_m x p ≡ p
    unfolding closed_m
    other_runs b = by (eqb p.stop_reason 0)
      where
        by : (a : Bool) →
            (if a then (if eqb (length p.last.runs) 0 then halt (horizon_m x p.last) p.left 0 else p) else p) ≡ p
        by true = rw b
        by false = refl

    finished : eqb p.stop_reason 0 ≡ true → eqb (length p.last.runs) 0 ≡ true →
        closed_m x p ≡ halt (log_plain_m 9 (put_now (get_or x 2 0) p.last)) p.left 0
    unfolding closed_m horizon_m
    finished a b = rw (a, b)

    closed_live : Result (closed_m x p) (closed horizon d) total
    unfolding reasons_of
    closed_live = by (case (eqb p.stop_reason 0)) (case (eqb (length p.last.runs) 0))
      where
        spent : (w : ℕ) → eqb w 0 ≡ false → (k : List Text) → (t : Text) × ((j : List Text) × (reasons_of w ++ k ≡ t ∷ j))
        spent w b k = or (case (eqb w 1))
          where
            or : Case (eqb w 1) → (t : Text) × ((j : List Text) × (reasons_of w ++ k ≡ t ∷ j))
            or (is_true c) = (space_spent, (k, rw (b, c)))
            or (is_false c) = (steps_spent, (k, rw (b, c)))

        by : Case (eqb p.stop_reason 0) → Case (eqb (length p.last.runs) 0) →
            Result (closed_m x p) (closed horizon d) total
        by (is_true a) (is_true b) =
            let n : left_over d.engine.runs ≡ [] = runs_none d.engine.runs (long ∙ eqb-true _ _ b) in
            let i : d.incomplete ≡ [] = told ∙ rw a in
            let o : d.incomplete ++ left_over d.engine.runs ≡ [] =
            ap (λ (y : List Text). y ++ left_over d.engine.runs) i ∙ n in
            rw (finished a b, all_done d o)
            (at_end n (log_plain_is f x ts mo tb at_horizon 9 Kind.horizon last))
          where
            at_end : left_over d.engine.runs ≡ [] →
                S horizon 0 (log_plain_m 9 (put_now (get_or x 2 0) p.last))
                (log horizon Kind.horizon none none none d.engine) →
                Result (halt (log_plain_m 9 (put_now (get_or x 2 0) p.last)) p.left 0)
                (record { engine = log horizon Kind.horizon none none none d.engine; steps = d.steps; incomplete = [] })
                total
            at_end n (live y) =
                ends horizon y steps (omega arith) (sym (ap left_over (log_runs_same horizon d.engine) ∙ n))
            at_end n (dead k z h o) = full k z h o
        by (is_true a) (is_false b) =
            let n : left_over d.engine.runs ≡ runs_left ∷ [] =
            runs_some d.engine.runs (λ e. eqb-false _ _ b (sym long ∙ e)) in
            let i : d.incomplete ≡ [] = told ∙ rw a in
            unchanged (other_runs b) runs_left [] (ap (λ (y : List Text). y ++ left_over d.engine.runs) i ∙ n)
        by (is_false a) c =
            let o = spent p.stop_reason a (left_over d.engine.runs) in
            unchanged (other_why a) o.0 o.1.0 (ap (λ (y : List Text). y ++ left_over d.engine.runs) told
            ∙ o.1.1)

  pub closed_is : (p : Halt) (d : Ended) (total : ℕ) → Ends f x ts mo tb p d total →
      Result (closed_m x p) (closed horizon d) total
  closed_is p d total (lives now l s w t) = closed_live p d total now l s w t
  closed_is p d total (stuck n z h o w) = full n z (closed_stuck n p z h)
      (end_closed (Over n) (overflow_stays n) horizon d o)

  -- ---- a whole simulation: from its beginning, with the events vs given as words
  pub ended_is : (m : Machine) (areas : Areas) (cells : List Cell) → Beginning m areas cells →
      (l : List ℕ) (d : Event) (vs : List Event) → ((i : ℕ) → i < length vs → EventAt f x ts mo l i (get_or vs i d)) →
      Result (closed_m x (loop_m f x (get_or x 3 0) (begun_m x l (length vs) m))) (ended areas mo cells vs)
      mo.scenario.limits.max_steps
  unfolding ended
  ended_is m areas cells b l d vs evs =
      let z : 0 + mo.scenario.limits.max_steps ≡ mo.scenario.limits.max_steps = omega arith in
      rw tb.steps
      (closed_is _ _ _ (subst (Ends f x ts mo tb _ _) z
      (loop_is f x ts mo tb mo.scenario.limits.max_steps 0 (omega (arith, tb.few_steps))
      (begun_is m areas cells b l d vs evs))))
