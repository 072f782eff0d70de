-- The loop by cases.
use Prim.Native.Nat.{ℕ, zero, suc, ◌+◌, ◌-◌, ◌*◌, ◌/◌, ◌≤◌, ◌<◌}
use mathlib.Core.Path.{◌≡◌, refl, sym, ◌∙◌, ap, subst}
use mathlib.Core.List.{List, [], ◌∷◌}
use mathlib.Core.Option.{Option, none, some}
use lib.ListN.{length, get_or}
use borrow.Author.Tests.{eq-eqb, ne_eqb}
use native.Mathlib.Omega.{arith}
use Rattle.layout.specs.Sizes.{simulation_reason_words}
use Rattle.queue.specs.Order.{pop, in_order, left_of}
use Rattle.queue.specs.Queue.{second_of, taken_of, laid, Took}
use Rattle.queue.proofs.Order.{order_pop, order_length, told}
use Rattle.queue.specs.declared.Item.{Item}
use Rattle.std.specs.Prelude as core
use Rattle.std.specs.Prelude.{Some, None}
use Rattle.engine_state.specs.declared.State.{State}
use Rattle.engine_state.specs.Machine.{Machine, Content, Entire, entire, machine, put_now}
use Rattle.engine_state.specs.Steps as steps
use Rattle.engine_state.specs.Steps.{Held, Lent, kept, goes, Listing, still, Steps, Turns, Does}
use Rattle.engine_state.proofs.Laws as states
use Rattle.engine_state.proofs.Laws.{both, same}
use Rattle.engine_schedule.specs.Next.{why_m, Why, with_turn}
use Rattle.engine_loop.specs.Loop.{took_m, turn_with_m, turn_m, Halt, halt, loop_m, Halts, Ends, horizon_m, closed_m, Closes}
use Rattle.engine_loop.specs.declared.Ended.{Ended}

-- ---- a turn

nothing_of : (l : List Item) → length l ≡ 0 → None ≡ taken_of (pop second_of l)
unfolding pop
nothing_of [] e = refl
nothing_of (x ∷ l) e = absurd (omega arith)

left_length : (l : List Item) → 0 < length l → length (left_of second_of (pop second_of l)) ≡ length l - 1
left_length l h = by (pop second_of l) (order_pop second_of l)
  where
    by : (p : Option (Item × List Item)) → in_order second_of l ≡ told second_of p → length (left_of second_of p) ≡ length l - 1
    by none e = absurd (omega (arith, order_length second_of l, ap length e))
    by (some (y, r)) e = omega (arith, order_length second_of l, ap length e, order_length second_of r)

not_nothing : (l : List Item) → 0 < length l → None ≡ taken_of (pop second_of l) → ⊥
not_nothing l h = by (pop second_of l) (order_pop second_of l)
  where
    by : (p : Option (Item × List Item)) → in_order second_of l ≡ told second_of p → None ≡ taken_of p → ⊥
    by none e g = omega (arith, order_length second_of l, ap length e)
    by (some (y, r)) e g = let z : ◌≡◌ {A = ℕ} 0 1 = cc in omega arith

pub turn_empty : (f x : List ℕ) {st : Entire} {q a r u : List ℕ} → st.items ≡ 0 →
    Steps (λ c. machine st c) st st (goes q q) (goes a a) (goes r r) (steps.told f u u) →
    Turns (turn_m f x) st st (goes q q) (goes a a) (goes r r) (steps.told f u u)
unfolding turn_m turn_with_m
turn_empty f x {st} e d = states.knowing (λ c. turn_m f x (machine st c)) d
    (λ _ q a r u c held. ap (λ t. turn_with_m f x t (machine st c)) (nothing_of c.queue (sym held.queue.many ∙ e)))

module _ (st : State) (q b : List ℕ) (t : core.Option Item) (took : Took q st.queue_start st.items b t)
    (same : length b ≡ length q) (h : (st.queue_start + st.items) * 5 ≤ length q) (some : 0 < st.items) where
  pub taken : (s : State) (i : Item) → t ≡ Some i → s ≡ with_turn i.second st → {v n c : List ℕ} →
      Steps (λ k. took_m i (machine (entire st v n c) k)) (entire st v n c) (entire s v n c) (goes q b) kept kept still
  taken s i _ e {v} {n} {c = l} =
      subst (λ z. Steps (λ c. took_m i (machine (entire st v n l) c)) (entire st v n l) (entire z v n l) (goes q b)
      kept kept still) (sym e) (record {
        queue = (same, omega (arith, h, same));
        records = refl;
        runs = refl;
        reasons = refl;
        does = λ f _ a r u c held.
            let old = held.queue in
            let l = left_of second_of (pop second_of c.queue) in
            record {
              content = states.k_queue l c;
              held = record {
                queue = record {
                  room = ap (λ n. n / 5) same ∙ old.room;
                  many =
                      ap (λ n. n - 1) old.many ∙ sym (left_length c.queue (subst (λ n. 0 < n) old.many some));
                  is =
                      took.left some c.queue (sym old.many) old.is
                      ∙ ap (λ n. laid (st.queue_start + 1) n l) (sym same);
                };
                records = held.records;
                runs = held.runs;
                reasons = held.reasons;
              };
              is = refl;
            };
      })

  -- a queue with items has a next one
  pub never : (F : Content → Machine) {a r u f v n c : List ℕ} → t ≡ None → st.records * 13 ≤ length a →
      st.live_runs * 28 ≤ length r → st.reasons * 5 ≤ length u →
      Steps F (entire st v n c) (entire st v n c) (goes q b) (goes a a) (goes r r) (steps.told f u u)
  never F e ha hr hu = record {
    queue = (same, omega (arith, h, same));
    records = (refl, ha);
    runs = (refl, hr);
    reasons = (refl, hu);
    does = λ f _ a r u c held.
        absurd (not_nothing c.queue (subst (λ n. 0 < n) held.queue.many some)
        (sym e ∙ took.is c.queue (sym held.queue.many) held.queue.is));
  }

pub with_taken : {st s : Entire} {A R : Lent} {q b : List ℕ} {U : Listing} (F : core.Option Item → Machine → Machine)
    {b' : List ℕ} {t y : core.Option Item} → Took q st.queue_start st.items b' t → t ≡ y →
    Steps (λ c. F y (machine st c)) st s (goes q b) A R U →
    Steps (λ c. F (taken_of (pop second_of c.queue)) (machine st c)) st s (goes q b) A R U
with_taken {st} F took e d = states.knowing (λ c. F (taken_of (pop second_of c.queue)) (machine st c)) d
    (λ f _ a r u c held.
    ap (λ z. F z (machine st c)) (sym e ∙ took.is c.queue (sym held.queue.many) held.queue.is))

-- ---- the loop

module _ (f x : List ℕ) where
  loop_end : (left : ℕ) (m : Machine) → (why_m x left m ≡ 4 → ⊥) → loop_m f x left m ≡ halt m left (why_m x left m)
  unfolding loop_m
  loop_end zero m h = refl
  loop_end (suc n) m h = rw (ne_eqb (why_m x (suc n) m) 4 h, loop_m)

  loop_more : (left : ℕ) (m : Machine) → why_m x left m ≡ 4 → 0 < left → loop_m f x left m ≡ loop_m f x (left - 1) (turn_m f x m)
  unfolding loop_m
  loop_more zero m e h = absurd (omega arith)
  loop_more (suc n) m e h = let z : suc n - 1 ≡ n = omega arith in rw (eq-eqb (why_m x (suc n) m) 4 e, loop_m, z)

-- where the loop stands
pub record Looped (f x : List ℕ) (st s : State) (q q' a a' r r' u u' v v' n n' c c' : List ℕ) (left why : ℕ) : Type 0 where
  pub go : Content → Machine
  pub steps : Steps go (entire st v n c) (entire s v' n' c') (goes q q') (goes a a') (goes r r') (steps.told f u u')
  pub rest : (k : Content) → Held f q a r u (entire st v n c) k →
      loop_m f x (get_or x 3 0) (machine (entire st v n c) k) ≡ loop_m f x left (go k)
  pub least : left ≤ get_or x 3 0
  pub why_is : Why x left q' s why
  pub room : simulation_reason_words ≤ length u'

pub loop_start : (f x : List ℕ) {st : State} {q a r u v n c : List ℕ} (why : ℕ) →
    Steps (λ k. machine (entire st v n c) k) (entire st v n c) (entire st v n c) (goes q q) (goes a a) (goes r r)
    (steps.told f u u) →
    Why x (get_or x 3 0) q st why → simulation_reason_words ≤ length u →
    Looped f x st st q q a a r r u u v v n n c c (get_or x 3 0) why
loop_start f x {st} {v = v} {n = n} {c = c} why d w h =
    record {
      go = λ k. machine (entire st v n c) k;
      steps = d;
      rest = λ k held. refl;
      least = omega arith;
      why_is = w;
      room =
          h;
    }

module _ {f x : List ℕ} {st s : State} {q q' a a' r r' u u' v v' n n' c c' : List ℕ} {left why : ℕ}
    (l : Looped f x st s q q' a a' r r' u u' v v' n n' c c' left why) where
  why_here : (k : Content) → Held f q a r u (entire st v n c) k → why ≡ why_m x left (l.go k)
  why_here k held = let y = l.steps.does f q a r u k held in
      l.why_is.seen.is f a' r' u' v' n' c' y.content y.held ∙ ap (why_m x left) y.is

  pub loop_step : {s' : State} {q'' a'' r'' u'' v'' n'' c'' : List ℕ} {why' : ℕ} → why ≡ 4 →
      Turns (turn_m f x) (entire s v' n' c') (entire s' v'' n'' c'') (goes q' q'') (goes a' a'') (goes r' r'')
      (steps.told f u' u'') →
      Why x (left - 1) q'' s' why' → simulation_reason_words ≤ length u'' →
      Looped f x st s' q q'' a a'' r r'' u u'' v v'' n n'' c c'' (left - 1) why'
  loop_step e d w h = record {
    go = λ k. turn_m f x (l.go k);
    steps = states.follow (turn_m f x) l.steps d both both both both;
    rest = λ k held. l.rest k held ∙ loop_more f x left (l.go k) (sym (why_here k held) ∙ e) (l.why_is.more e);
    least = omega (arith, l.least);
    why_is = w;
    room = h;
  }

  pub loop_halts : (e : Ended) → e ≡ record { state = s; steps = get_or x 3 0 - left; stop_reason = why } → (why ≡ 4 → ⊥) →
      Ends f x st e q q' a a' r r' u u' v v' n n' c c'
  loop_halts e is h = subst (λ z. Ends f x st z q q' a a' r r' u u' v v' n n' c c') (sym is) (record {
    queue = l.steps.queue;
    records = l.steps.records;
    runs = l.steps.runs;
    reasons = l.steps.reasons;
    does = λ k held.
        let y = l.steps.does f q a r u k held in
        subst (λ p. Halts f q' a' r' u' v' n' c' (get_or x 3 0)
        (record { state = s; steps = get_or x 3 0 - left; stop_reason = why }) p)
        (sym (l.rest k held ∙ loop_end f x left (l.go k) (λ g. h (why_here k held ∙ g))))
        (record { stands = y; steps = refl; stop_reason = why_here k held });
  })

-- ---- before and after

pub timed : (n : ℕ) (st : State) → Does (put_now n) st
    (record {
      now = n;
      items = st.items;
      queue_start = st.queue_start;
      records = st.records;
      live_runs =
          st.live_runs;
      reasons = st.reasons;
      runs_created = st.runs_created;
      «overflow» = st.«overflow»;
    })
    kept kept kept still
timed n st =
    states.moves (λ _ _ _. record {
      queue = refl;
      records = refl;
      runs = refl;
      reasons = refl;
      does =
          λ f q a r u k held. record {
            content = k;
            held =
                record { queue = held.queue; records = held.records; runs = held.runs; reasons = held.reasons };
            is = refl;
          };
    })

module _ (x : List ℕ) (d : Ended) (a : List ℕ) (h : d.state.records * 13 ≤ length a) where
  pub closed_why : (d.stop_reason ≡ 0 → ⊥) → Closes x d d a a
  unfolding closed_m
  closed_why z = record {
    queue = refl;
    records = (refl, h);
    runs = refl;
    does =
        λ f q r u v n c total p g. subst (λ e. Halts f q a r u v n c total d e) (no_why p (λ e. z (g.stop_reason ∙ e))) g;
  }
    where
      no_why : (p : Halt) → (p.stop_reason ≡ 0 → ⊥) → p ≡ closed_m x p
      no_why p g = rw (ne_eqb p.stop_reason 0 g)

  pub closed_runs : d.stop_reason ≡ 0 → (d.state.live_runs ≡ 0 → ⊥) → Closes x d d a a
  unfolding closed_m
  closed_runs z left = record {
    queue = refl;
    records = (refl, h);
    runs = refl;
    does =
        λ f q r u v n c total p g. subst (λ e. Halts f q a r u v n c total d e)
        (no_end p (sym g.stop_reason ∙ z) (λ e. left
        (g.stands.held.runs.many ∙ ap (λ m. length m.runs) g.stands.is ∙ e))) g;
  }
    where
      no_end : (p : Halt) → p.stop_reason ≡ 0 → (length p.last.runs ≡ 0 → ⊥) → p ≡ closed_m x p
      no_end p e g = rw (eq-eqb p.stop_reason 0 e, ne_eqb (length p.last.runs) 0 g)

  pub closed_end : (s : State) (b : List ℕ) → Does (horizon_m x) d.state s kept (goes a b) kept still →
      d.stop_reason ≡ 0 → d.state.live_runs ≡ 0 →
      Closes x d (record { state = s; steps = d.steps; stop_reason = 0 }) a b
  unfolding closed_m
  closed_end s b e z none_left = record {
    queue = e.queue;
    records = e.records;
    runs = e.runs;
    does = λ f q r u v n c total p g.
        let y = (e.does v n c).does f q a r u g.stands.content g.stands.held in
        subst (λ h'. Halts f q b r u v n c total (record { state = s; steps = d.steps; stop_reason = 0 }) h')
        (the_end p (sym g.stop_reason ∙ z) (sym (ap (λ m. length m.runs) g.stands.is)
        ∙ sym g.stands.held.runs.many ∙ none_left))
        (record {
          stands = record { content = y.content; held = y.held; is = y.is ∙ ap (horizon_m x) g.stands.is };
          steps = g.steps;
          stop_reason = refl;
        });
  }
    where
      the_end : (p : Halt) → p.stop_reason ≡ 0 → length p.last.runs ≡ 0 →
          halt (horizon_m x p.last) p.left 0 ≡ closed_m x p
      the_end p e g = rw (eq-eqb p.stop_reason 0 e, eq-eqb (length p.last.runs) 0 g)
