-- Areas of the sizes in specs/Bounds are enough: an accepted model's simulation is never refused with 41, 42 or 43.
-- One item of work puts in at most 544 items and 96 records, an accepted model has at most 512 runs at once.
use Prim.Native.Nat.{ℕ, zero, suc, ◌+◌, ◌*◌, ◌≤◌}
use mathlib.Core.Path.{◌≡◌, refl, ap, ◌∙◌}
use mathlib.Core.Bool.{Bool, true, false, ◌||◌, true≢false, false≢true}
use mathlib.Core.List.{List, [], ◌∷◌, Memᴰ}
use mathlib.Core.Option.{Option, none, some}
use native.Mathlib.Omega.{arith}
use lib.Dec.{leb, ltb, eqb}
use lib.ListN.{length, length-append}
use Rattle.texts.specs.Lists.{◌▸◌, any, tally, each, flat, through}
use Rattle.texts.specs.Texts.{Text, eq_t}
use Rattle.model_spec.specs.Answer.{answer, ◌>>=◌}
use Rattle.model_spec.specs.Model.{
  Moment,
  Mode,
  single,
  queued,
  parallel,
  Entity,
  done,
  Automation,
  Input,
  reload,
  Event,
  Model,
}
use Rattle.model_spec.specs.Validate.{bad_bounds, check_rule, check_rules, accepted}
use Rattle.engine_spec.specs.Bounds.{Enough}
use Rattle.engine_spec.specs.Cells.{Cell, initial_cells}
use Rattle.engine_spec.specs.Modes.{most}
use Rattle.engine_spec.specs.Reasons.{space_spent, steps_spent}
use Rattle.engine_spec.specs.Records.{Run, Work, Item, Kind, Areas, Engine}
use Rattle.engine_spec.specs.Changes.{with_queue}
use Rattle.engine_spec.specs.Unsupported.{unsupported}
use Rattle.engine_spec.specs.Engine.{
  of_rule,
  expiry,
  wake,
  offer,
  trigger,
  process,
  sooner,
  pop,
  Next,
  stop,
  exhausted,
  take,
  next_of,
  Ended,
  loop,
  event_item,
  begun,
  last_record,
  closed,
}
use Rattle.engine_spec.specs.Simulate.{ended, outcome, unless_full, simulated, simulate}
use Rattle.engine_spec.proofs.Lists.{
  Case,
  is_true,
  is_false,
  case,
  if_prop,
  leb_no,
  or_no,
  eq_t_eq,
  one,
  Each,
  each_weak,
}
use Rattle.engine_spec.proofs.Runs.{Fit}
use Rattle.engine_spec.proofs.Keeps.{Kept, Only, Knows, known_in, k_wake, k_offer, process_keeps, begun_keeps}
use Rattle.engine_spec.proofs.Modes.{all_known}
use Rattle.engine_spec.proofs.Validated.{accepted_passed, few_parts}
use Rattle.engine_spec.proofs.Distinct.{bind_inv, and_inv, when_inv, or_no', Fresh, each_at, only_one, accepted_fresh}
use Rattle.engine_spec.proofs.Bounds

-- ---- an accepted model's sizes

-- at most 16 runs of each automation
abbrev Small : Automation → Type 0
Small r = (1 ≤ r.max) × (r.max ≤ 16)

ltb_no : (m n : ℕ) → ltb m n ≡ false → n ≤ m
ltb_no m n e = omega (arith, leb_no (suc m) n e)

small : (r : Automation) → bad_bounds r ≡ false → Small r
unfolding bad_bounds
small r e =
    let e₁ = or_no (eqb r.max 0 || ltb 16 r.max) _ (or_no _ _ (or_no _ _ e)) in (
      positive r.max (or_no (eqb r.max 0) (ltb 16 r.max) e₁),
      ltb_no 16 r.max
          (or_no' (eqb r.max 0) (ltb 16 r.max) e₁),
    )
  where
    positive : (n : ℕ) → eqb n 0 ≡ false → 1 ≤ n
    positive zero h = absurd (true≢false h)
    positive (suc n) h = omega arith

rules_small : (es : List Entity) (ids : List Text) (rs : List Automation) (n k : ℕ)
    → check_rules es ids rs n ≡ answer k → Each Small rs
unfolding check_rules check_rule
rules_small es ids [] n k e = tt
rules_small es ids (r ∷ rs) n k e =
    let b : (a : ℕ) × ((check_rule es ids r n ≡ answer a) × (check_rules es (r.id ∷ ids) rs a ≡ answer k)) =
    bind_inv (check_rule es ids r n) (check_rules es (r.id ∷ ids) rs) k e in (
      small r (when_inv 14 (bad_bounds r) _ b.0 (and_inv _ _ b.0 b.1.0)),
      rules_small es (r.id ∷ ids) rs
          b.0 k b.1.1,
    )

record Sizes (m : Model) : Type 0 where
  entities : length m.scenario.entities ≤ 32
  rules : length m.rules ≤ 32
  events : length m.scenario.events ≤ 100
  few : Each Small m.rules

accepted_sizes : (file : List ℕ) (m : Model) → accepted file ≡ answer m → Sizes m
accepted_sizes file m e =
    let p = accepted_passed file m e in
    let f = few_parts m p.size in
    record {
      entities = f.entities;
      rules = f.rules;
      events = f.events;
      few = rules_small m.scenario.entities [] m.rules 0 p.actions p.rules;
    }

-- so each automation may have a run
pub accepted_max : (file : List ℕ) (m : Model) → accepted file ≡ answer m → {a : Automation} → Memᴰ a m.rules
    → 1 ≤ a.max
accepted_max file m e i = (each_at Small (accepted_sizes file m e).few i).0

-- ---- all runs together

sum : (Automation → ℕ) → List Automation → ℕ
sum f [] = 0
sum f (r ∷ l) = f r + sum f l

sum_both : (f g : Automation → ℕ) (l : List Automation) → sum (λ r. f r + g r) l ≡ sum f l + sum g l
unfolding sum
sum_both f g [] = omega arith
sum_both f g (r ∷ l) = omega (arith, sum_both f g l)

sum_most : (f : Automation → ℕ) (l : List Automation) → Each (λ r. f r ≤ 16) l → sum f l ≤ 16 * length l
unfolding sum
sum_most f [] k = omega arith
sum_most f (r ∷ l) k = omega (arith, sum_most f l k.1, k.0)

sum_any : (p : Automation → Bool) (l : List Automation) → any p l ≡ true → 1 ≤ sum (λ r. one (p r)) l
unfolding sum any
sum_any p [] e = absurd (false≢true e)
sum_any p (r ∷ l) e = go (case (p r)) (sum_any p l)
  where
    go : Case (p r) → (any p l ≡ true → 1 ≤ sum (λ r. one (p r)) l) → 1 ≤ one (p r) + sum (λ r. one (p r)) l
    go (is_true a) h = rw a (omega arith)
    go (is_false a) h = omega (arith, h (rw a at e))

-- each run is of one of the automations, so there are no more than all automations' together
all_runs : (rules : List Automation) (l : List Run) → Each (λ x. known_in rules x.key.rule ≡ true) l
    → length l ≤ sum (λ r. tally (of_rule r.id) l) rules
unfolding tally known_in of_rule
all_runs rules [] k = omega arith
all_runs rules (x ∷ l) k =
    omega (
      arith,
      all_runs rules l k.1,
      sum_any (λ r. eq_t x.key.rule r.id) rules k.0,
      sum_both (λ r. one (eq_t x.key.rule r.id)) (λ r. tally (of_rule r.id) l) rules,
    )

-- a text of which one is made is known, if all are
known_made : (known : Text → Bool) (made : List Text) (s : Text) → Each (λ t. known t ≡ true) made
    → 1 ≤ tally (eq_t s) made → known s ≡ true
unfolding tally
known_made known [] s k h = absurd (omega arith)
known_made known (t ∷ l) s k h = go (case (eq_t s t)) (known_made known l s k.1)
  where
    go : Case (eq_t s t) → (1 ≤ tally (eq_t s) l → known s ≡ true) → known s ≡ true
    go (is_true a) f = ap known (eq_t_eq s t a) ∙ k.0
    go (is_false a) f =
        let g : 1 ≤ 0 + tally (eq_t s) l = rw a at h in
        f (omega arith)

-- some automation, for what holds of all runs
nobody : Automation
nobody = record {
  id = [];
  mode = single;
  max = 1;
  triggers = [];
  conditions = [];
  actions = done;
  source = record { line = 0; column = 0 };
  notes = [];
}

pub somebody : (rules : List Automation) → Fresh [] rules → (a : Automation) × Only a rules
somebody [] f = (nobody, tt)
somebody (r ∷ l) f = (r, only_one [] {l = r ∷ l} f (Memᴰ.head refl))

-- an item taken out leaves one less
OneLess : List Item → Option (Item × List Item) → Type 0
OneLess l none = Unit {0}
OneLess l (some p) = length l ≡ length p.1 + 1

pop_less : (l : List Item) → OneLess l (pop l)
unfolding OneLess pop
pop_less [] = tt
pop_less (i ∷ l) = go (pop l) (pop_less l)
  where
    go : (o : Option (Item × List Item)) → OneLess l o → OneLess (i ∷ l) (sooner i l o)
    go none k = unfold sooner in (omega arith)
    go (some p) k = unfold sooner in
        (if_prop (OneLess (i ∷ l)) (leb i.at p.0.at) (λ _. omega arith) (λ _. omega (arith, k)))

-- at most one expiry of each cell
length_flat : (l : List Cell) → length (flat (expiry 0) l) ≤ length l
unfolding flat
length_flat [] = omega arith
length_flat (c ∷ l) =
    omega (arith, length-append (expiry 0 c) (flat (expiry 0) l), length_flat l, Bounds.one_expiry 0 c)

module _ (rules : List Automation) (fresh : Fresh [] rules) (few : Each Small rules) (size : length rules ≤ 32) where
  -- the invariant of the modes, for each automation
  All : Engine → Type 0
  All e = (a : Automation) → Only a rules → Kept (known_in rules) a e.runs e.made

  most_16 : (a : Automation) → Small a → most a.mode a.max ≤ 16
  most_16 a h = by a.mode
    where
      by : (m : Mode) → most m a.max ≤ 16
      by single = unfold most in (omega arith)
      by Mode.restart = unfold most in (omega arith)
      by queued = unfold most in h.1
      by parallel = unfold most in h.1

  bounded : (e : Engine) → All e → length e.runs ≤ 512
  unfolding All
  bounded e k =
      omega (
        arith,
        all_runs rules e.runs owned,
        sum_most (λ r. tally (of_rule r.id) e.runs) rules
            (each_of rules (λ a i. i) few),
      )
    where
      any_kept : Kept (known_in rules) (somebody rules fresh).0 e.runs e.made
      any_kept = k (somebody rules fresh).0 (somebody rules fresh).1

      owned : Each (λ x. known_in rules x.key.rule ≡ true) e.runs
      owned =
          each_weak (Fit e.made) _ (λ x f. known_made (known_in rules) e.made x.key.rule any_kept.from
          (omega (arith, f.old))) e.runs any_kept.fit

      each_of : (l : List Automation) → ((a : Automation) → Memᴰ a l → Memᴰ a rules) → Each Small l
          → Each (λ r. tally (of_rule r.id) e.runs ≤ 16) l
      each_of [] h f = tt
      each_of (r ∷ l) h f = (
        omega (arith, (k r (only_one [] fresh (h r (Memᴰ.head refl)))).within.bound, most_16 r f.0),
        each_of l (λ a i. h a (Memᴰ.tail i)) f.1,
      )

  -- ---- one item of work

  module _ (A : Areas) (enough : Enough A) where
    abbrev F : ℕ → ℕ → Engine → Type 0
    F = Bounds.F A

    -- the automations in turn, each with the invariant after it
    offers_fit : {q t : ℕ} (now : ℕ) (x from to : Text) (l : List Automation) (e : Engine) → Knows (known_in rules) l
        → ((a : Automation) → Only a rules → Only a l) → All e → F (length l + q) (3 * length l + t) e → F q t
        (through (offer now x from to) l e)
    unfolding through All
    offers_fit now x from to [] e i u k f = Bounds.f_weak A (omega arith) (omega arith) f
    offers_fit {q} {t} now x from to (r ∷ l) e i u k f =
        offers_fit now x from to l (offer now x from to r e) i.1 (λ a o. (u a o).1) after
        (Bounds.f_offer A now x from to r e (omega (arith, bounded (offer now x from to r e) after, enough.runs))
        (Bounds.f_weak A (omega arith) (omega arith) f))
      where
        after : All (offer now x from to r e)
        after = λ a o. k_offer (known_in rules) a now x from to r e i.0 (u a o).0 (k a o)

    process_fits : (now : ℕ) (w : Work) (e : Engine) → All e → F 544 97 e → F 0 1 (process now rules w e)
    unfolding process trigger All
    process_fits now (Work.external (Input.set x v)) e k f =
        Bounds.f_update A now x v none none Kind.external e (Bounds.f_weak A (omega arith) (omega arith) f)
    process_fits now (Work.external Input.restart) e k f =
        Bounds.f_drop A now e (Bounds.f_weak A (omega arith) (omega arith) f)
    process_fits now (Work.external reload) e k f =
        Bounds.f_drop A now e (Bounds.f_weak A (omega arith) (omega arith) f)
    process_fits now (Work.changed x from to) e k f =
        offers_fit now x from to rules (wake now x from to e) (all_known rules) (λ a o. o)
        (λ a o. k_wake (known_in rules) a now x from to e (k a o))
        (Bounds.f_wake A now 512 x from to e (bounded e k) (Bounds.f_weak A (omega arith) (omega arith) f))
    process_fits now (Work.resume j) e k f = Bounds.f_resume A now j e (Bounds.f_weak A (omega arith) (omega arith) f)
    process_fits now (Work.timeout j) e k f =
        Bounds.f_time_out A now j e (Bounds.f_weak A (omega arith) (omega arith) f)
    process_fits now (Work.stale x n) e k f = Bounds.f_stale A now x n e (Bounds.f_weak A (omega arith) (omega arith) f)

    -- ---- the loop

    -- what the loop's tests say of an item taken
    Tested : Engine → Next → Type 0
    Tested e stop = Unit {0}
    Tested e exhausted = Unit {0}
    Tested e (take i l) = (length e.trace + 1 ≤ 10000) × (length l + 1 ≤ 20000)

    tested_next : (h : ℕ) (e : Engine) → Tested e (next_of h e (pop e.queue))
    unfolding Tested next_of OneLess
    tested_next h e = go (pop e.queue) (pop_less e.queue)
      where
        go : (o : Option (Item × List Item)) → OneLess e.queue o → Tested e (next_of h e o)
        go none k = tt
        go (some p) k =
            if_prop (Tested e) (leb 10000 (length e.trace) || ltb 20000 (length e.queue)) (λ _. tt)
            (λ n. if_prop (Tested e) (ltb h p.0.at) (λ _. tt)
            (λ _. (
              leb_no 10000 (length e.trace) (or_no (leb 10000 (length e.trace)) _ n),
              omega
                  (arith, k, ltb_no 20000 (length e.queue) (or_no' (leb 10000 (length e.trace)) _ n)),
            )))

    loop_fits : (h left n : ℕ) (e : Engine) → All e → F 0 1 e → F 0 1 (loop rules h left n e).engine
    unfolding loop
    loop_fits h zero n e k f = go (next_of h e (pop e.queue))
      where
        go : (x : Next) → F 0 1 (◌▸◌ {A = Ended} (elim x [
          | stop ↦ record { engine = e; steps = n; incomplete = [] }
          | exhausted ↦ record { engine = e; steps = n; incomplete = space_spent ∷ [] }
          | take i l ↦ record { engine = e; steps = n; incomplete = steps_spent ∷ [] }
        ]) (λ (d : Ended). d.engine))
        go stop = f
        go exhausted = f
        go (take i l) = f
    loop_fits h (suc m) n e k f = go (next_of h e (pop e.queue)) (tested_next h e) (loop_fits h m (n + 1))
      where
        go : (x : Next) → Tested e x → ((s : Engine) → All s → F 0 1 s → F 0 1 (loop rules h m (n + 1) s).engine)
            → F 0 1 (◌▸◌ {A = Ended} (elim x [
              | stop ↦ record { engine = e; steps = n; incomplete = [] }
              | exhausted ↦ record { engine = e; steps = n; incomplete = space_spent ∷ [] }
              | take i l ↦ loop rules h m (n + 1) (e ▸ with_queue l ▸ process i.at rules i.work)
            ]) (λ (d : Ended). d.engine))
        go stop t g = f
        go exhausted t g = f
        go (take i l) t g =
            g (process i.at rules i.work (with_queue l e))
            (unfold All in (λ a o. process_keeps (known_in rules) a i.at rules i.work (with_queue l e)
            (all_known rules) o (unfold with_queue in (k a o))))
            (process_fits i.at i.work (with_queue l e) (unfold All with_queue in k) room)
          where
            tests : (length e.trace + 1 ≤ 10000) × (length l + 1 ≤ 20000)
            tests = unfold Tested in t

            room : F 544 97 (with_queue l e)
            room = unfold with_queue in (record {
              items = omega (arith, enough.queue, tests.1);
              told = omega (arith, enough.records, tests.0);
              calm = f.calm;
              same = f.same;
            })

    closed_calm : (h : ℕ) (d : Ended) → F 0 1 d.engine → (closed h d).engine.overflow ≡ none
    unfolding closed
    closed_calm h d f = go _
      where
        go : (l : List Text) → (last_record h l d.engine).overflow ≡ none
        go [] =
            unfold last_record in (Bounds.f_log A {q = 0} {t = 0} h Kind.horizon none none none d.engine f).calm
        go (t ∷ l) = unfold last_record in f.calm

    -- ---- the start

    begun_fits : (origin : Moment) (cells : List Cell) (notes : List Text) (events : List Event) → length cells ≤ 32
        → length events ≤ 100 → F 0 1 (begun A origin cells notes events)
    unfolding begun
    begun_fits origin cells notes events c v =
        Bounds.f_adds A (flat (expiry 0) cells) _
        (Bounds.f_adds A (each event_item events) _
        (Bounds.f_log A 0 Kind.initial none none none _ (record {
          items = omega (arith, enough.queue, Bounds.length_each event_item events, length_flat cells);
          told = omega (arith, enough.records);
          calm = refl;
          same = refl;
        })))

-- ---- the theorem

-- an accepted model's simulation overflows no area, from given cells and with given events
pub no_overflow : (file : List ℕ) (m : Model) → accepted file ≡ answer m → (areas : Areas) → Enough areas
    → (cells : List Cell) (events : List Event) → length cells ≤ 32 → length events ≤ 100
    → (ended areas m cells events).engine.overflow ≡ none
unfolding ended
no_overflow file m e areas enough cells events c v =
    let z = accepted_sizes file m e in
    let fresh = accepted_fresh file m e in
    let limits = m.scenario.limits in
    let s = begun areas m.start cells (unsupported m.rules) events in
    closed_calm m.rules fresh z.few z.rules areas enough limits.horizon
    (loop m.rules limits.horizon limits.max_steps 0 s)
    (loop_fits m.rules fresh z.few z.rules areas enough limits.horizon limits.max_steps 0 s
    (unfold All in (λ a o. begun_keeps (known_in m.rules) a areas m.start cells (unsupported m.rules) events))
    (begun_fits m.rules fresh z.few z.rules areas enough m.start cells (unsupported m.rules) events c v))

-- so `simulate` answers every accepted file
pub simulate_answers : (file : List ℕ) (m : Model) → accepted file ≡ answer m → (areas : Areas) → Enough areas
    → simulate areas file ≡ answer (outcome m
    (ended areas m (initial_cells m.scenario.entities) m.scenario.events))
unfolding simulate simulated ◌>>=◌
simulate_answers file m e areas enough =
    rw (
      e,
      no_overflow file m e areas enough (initial_cells m.scenario.entities) m.scenario.events cells_few
          (accepted_sizes file m e).events,
    )
    (unfold unless_full in refl)
  where
    cells_few : length (initial_cells m.scenario.entities) ≤ 32
    cells_few =
        unfold initial_cells in (omega (
          arith,
          Bounds.length_each {B = Cell}
              (λ (n : Entity). record { name = n.name; stale_after = n.stale_after; value = n.initial; version = 0 })
              m.scenario.entities,
          (accepted_sizes file m e).entities,
        ))
