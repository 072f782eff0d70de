-- The parts of a simulation put together.
use Prim.Native.Nat.{ℕ, ◌-◌, ◌*◌, ◌/◌, ◌≤◌}
use mathlib.Core.Path.{◌≡◌, refl, sym, ◌∙◌, ap, subst}
use mathlib.Core.Bool.{not}
use mathlib.Core.List.{List}
use lib.Dec.{eqb}
use lib.ListN.{length, get_or, replicate, length-replicate}
use borrow.Author.Tests.{eq-eqb, ne_eqb}
use native.Mathlib.Omega.{arith}
use Rattle.texts.specs.Texts.{Text}
use Rattle.areas.specs.Areas.{area, cleared}
use Rattle.areas.proofs.Laws as areas
use Rattle.queue.proofs.Laws as queue
use Rattle.records.specs.Records.{record_words}
use Rattle.runs.specs.Runs.{run_words}
use Rattle.reasons.specs.Lists.{Holds}
use Rattle.engine_state.specs.declared.Cells.{Cells}
use Rattle.engine_state.specs.declared.State.{State}
use Rattle.engine_state.specs.Machine.{entire, machine}
use Rattle.engine_state.specs.Steps.{Held, kept, goes, still, Moves}
use Rattle.engine_handlers.proofs.Laws.{none_of_runs}
use Rattle.engine_schedule.specs.Events.{begun_m}
use Rattle.engine_loop.specs.Loop.{Halt, Halts, Ends, Closes, loop_m}
use Rattle.engine_loop.specs.declared.Ended.{Ended}
use Rattle.engine_run.specs.Run.{
  wholly_m,
  Wholly,
  start_of,
  nothing_yet,
  beginning,
  refusal_m,
  answer_ended_m,
  answer_m,
  Answers,
  Simulates,
}
use Rattle.engine_run.specs.declared.Simulation.{Simulation}

module _ {f x l : List ℕ} {n : ℕ} {st s : State} {d e : Ended} {q q' q₂ a a' a₂ a₃ r r' u u' v v' i i' c c' : List ℕ} where
  pub wholly : Moves (begun_m x l n) st s (goes q q') (goes a a') kept still kept (goes i i) kept →
      Ends f x s d q' q₂ a' a₂ r r' u u' v v' i i' c c' → Closes x d e a₂ a₃ →
      Wholly f x l n st e q q₂ a a₃ r r' u u' v v' i i' c c'
  unfolding wholly_m
  wholly b w z = record {
    queue = w.queue.0 ∙ b.queue.0;
    records = z.records.0 ∙ w.records.0 ∙ b.records.0;
    runs = w.runs.0;
    reasons = w.reasons.0;
    items_fit = rw z.queue w.queue.1;
    runs_fit = rw z.runs w.runs.1;
    does = λ k held.
        let y = (b.does v i c).does f q a r u k held in
        z.does f q₂ r' u' v' i' c' (get_or x 3 0) (loop_m f x (get_or x 3 0) (begun_m x l n (machine (entire st v i c) k)))
        (subst (λ m. Halts f q₂ a₂ r' u' v' i' c' (get_or x 3 0) d (loop_m f x (get_or x 3 0) m)) y.is
        (w.does y.content y.held));
  }

-- ---- the answer

no_is : (total : ℕ) (p : Halt) → (p.last.«overflow» ≡ 0 → ⊥) → refusal_m p.last.«overflow» ≡ answer_m total p
unfolding answer_m
no_is total p g = rw (ne_eqb p.last.«overflow» 0 g)

yes_is : (total : ℕ) (p : Halt) → p.last.«overflow» ≡ 0 →
    record {
      refused = 0;
      steps = total - p.left;
      records = length p.last.records;
      reasons = length p.last.reasons;
      stop_reason = p.stop_reason;
      runs_left = not (eqb (length p.last.runs) 0);
      values = p.last.values;
    }
    ≡ answer_m total p
unfolding answer_m
yes_is total p g = rw (eq-eqb p.last.«overflow» 0 g)

unfoldable simulation : (steps records reasons why active : ℕ) → List ℕ → Simulation
simulation s r n w a v = record {
  refused = 0;
  steps = s;
  records = r;
  reasons = n;
  stop_reason = w;
  runs_left =
      not (eqb a 0);
  values = v;
}

pub told_is : {f q a r u v n c : List ℕ} {total : ℕ} {e : Ended} (p : Halt) → Halts f q a r u v n c total e p →
    p.last.«overflow» ≡ 0 → answer_ended_m e v ≡ answer_m total p
unfolding answer_ended_m simulation
told_is {v = v} {total = total} {e = e} p g z =
    let m = p.last in
    let er : e.state.records ≡ length m.records =
    g.stands.held.records.many ∙ ap (λ n. length n.records) g.stands.is in
    let en : e.state.reasons ≡ length m.reasons =
    g.stands.held.reasons.many ∙ ap (λ n. length n.reasons) g.stands.is in
    let ea : e.state.live_runs ≡ length m.runs =
    g.stands.held.runs.many ∙ ap (λ n. length n.runs) g.stands.is in
    let ev : v ≡ m.values = ap (λ n. n.values) g.stands.is in
    ap (λ i. simulation i e.state.records e.state.reasons e.stop_reason e.state.live_runs v) g.steps
    ∙ ap (λ i. simulation (total - p.left) i e.state.reasons e.stop_reason e.state.live_runs v) er
    ∙ ap (λ i. simulation (total - p.left) (length m.records) i e.stop_reason e.state.live_runs v) en
    ∙ ap (λ i. simulation (total - p.left) (length m.records) (length m.reasons) i e.state.live_runs v)
    g.stop_reason
    ∙ ap (λ i. simulation (total - p.left) (length m.records) (length m.reasons) p.stop_reason i v) ea
    ∙ ap (λ i. simulation (total - p.left) (length m.records) (length m.reasons) p.stop_reason (length m.runs)
    i) ev
    ∙ yes_is total p z

-- ---- the areas at the start

pub zero_length : (n : ℕ) (y : List ℕ) → y ≡ replicate n 0 → length y ≡ n
zero_length n y e = ap length e ∙ length-replicate n 0

pub tenth : (n : ℕ) → n / 10 * 5 ≤ n
tenth n = omega arith

module _ (f : List ℕ) (c : Cells) (so_far : ℕ) (q q₁ a a₁ r r₁ u : List ℕ) (eq : q₁ ≡ replicate (length q) 0)
    (ea : a₁ ≡ replicate (length a) 0) (er : r₁ ≡ replicate (length r) 0) (first : ℕ) (fits : first * 5 ≤ length q₁) where
  zeros : (x y : List ℕ) → y ≡ replicate (length x) 0 → length y ≡ length x
  zeros x y e = ap length e ∙ length-replicate (length x) 0

  pub held_none : (t : List Text) → Holds f t so_far u →
      Held f q₁ a₁ r₁ u (entire (start_of first so_far) c.values c.versions (replicate 32 0))
      (nothing_yet (length q / 5) (length a / 13) (length r / 28) t)
  held_none t h = record {
    queue = record {
      room = ap (λ i. i / 5) (zeros q q₁ eq);
      many = refl;
      is =
          eq ∙ ap (λ i. replicate i 0) (sym (zeros q q₁ eq)) ∙ sym (queue.empty_is first (length q₁) fits);
    };
    records = record {
      room = ap (λ i. i / 13) (zeros a a₁ ea);
      many = refl;
      is =
          ea ∙ ap (λ i. replicate i 0) (sym (zeros a a₁ ea)) ∙ sym (areas.area_none record_words (length a₁));
    };
    runs = record {
      room = ap (λ i. i / 28) (zeros r r₁ er);
      many = refl;
      is =
          er ∙ ap (λ i. replicate i 0) (sym (zeros r r₁ er)) ∙ sym (areas.area_none run_words (length r₁));
    };
    reasons = h;
  }

  -- ---- the answer, from where the loop halts

  module _ {x l : List ℕ} {n : ℕ} {st : State} {e : Ended} {q₂ a₂ r₂ u₂ v i j : List ℕ} (is : st ≡ start_of first so_far)
      (w : Wholly f x l n st e q₁ q₂ a₁ a₂ r₁ r₂ u u₂ c.values v c.versions i (replicate 32 0) j) where
    halted : (t : List Text) → Holds f t so_far u → Halts f q₂ a₂ r₂ u₂ v i j (get_or x 3 0) e
        (wholly_m f x l n (beginning c (length q / 5) (length a / 13) (length r / 28) t))
    halted t h =
        (subst (λ z. Wholly f x l n z e q₁ q₂ a₁ a₂ r₁ r₂ u u₂ c.values v c.versions i (replicate 32 0) j) is w).does
        (nothing_yet (length q / 5) (length a / 13) (length r / 28) t) (held_none t h)

    -- where the loop halts the areas hold the items and runs that are left
    pub no_items : (t : List Text) → Holds f t so_far u → (q₃ : List ℕ) →
        q₃ ≡ cleared q₂ (e.state.queue_start * 5) (e.state.items * 5) → q₃ ≡ replicate (length q₂) 0
    no_items t h q₃ c =
        let left = (halted t h).stands.held in
        queue.none_left q₂ q₃ e.state.queue_start e.state.items _ (sym left.queue.many) left.queue.is
        w.items_fit c

    pub no_runs : (t : List Text) → Holds f t so_far u → (r₃ : List ℕ) → r₃ ≡ cleared r₂ 0 (e.state.live_runs * 28) →
        r₃ ≡ replicate (length r₂) 0
    no_runs t h r₃ c =
        let left = (halted t h).stands.held in
        none_of_runs r₂ r₃ e.state.live_runs _ (sym left.runs.many) left.runs.is w.runs_fit c

    same_records : length a₂ ≡ length a
    same_records = w.records ∙ zeros a a₁ ea

    texts_are : {g y : List ℕ} {t : List Text} {k : ℕ} → Holds g t k y → Holds g t (length t) y
    texts_are {g} {y} {t} h = subst (λ k. Holds g t k y) h.many h

    pub answered : (q₃ r₃ : List ℕ) (s : Simulation) → q₃ ≡ cleared q₂ (e.state.queue_start * 5) (e.state.items * 5) →
        r₃ ≡ cleared r₂ 0 (e.state.live_runs * 28) → e.state.«overflow» ≡ 0 → s ≡ answer_ended_m e v →
        Simulates f x l n c so_far s q q₃ a a₂ r r₃ u u₂
    answered q₃ r₃ s cq cr z es = record {
      queue = λ t h. no_items t h q₃ cq ∙ ap (λ k. replicate k 0) (w.queue ∙ zeros q q₁ eq);
      runs = λ t h. no_runs t h r₃ cr ∙ ap (λ k. replicate k 0) (w.runs ∙ zeros r r₁ er);
      does = λ t h. by (wholly_m f x l n (beginning c (length q / 5) (length a / 13) (length r / 28) t)) (halted t h);
    }
      where
        by : (p : Halt) → Halts f q₂ a₂ r₂ u₂ v i j (get_or x 3 0) e p → Answers f x s a a₂ u₂ p
        by p g =
            let zero : p.last.«overflow» ≡ 0 = sym (ap (λ m. m.«overflow») g.stands.is) ∙ z in
            record {
              answer = es ∙ told_is p g zero;
              records = rw (eq-eqb p.last.«overflow» 0 zero)
                  (g.stands.held.records.is ∙ ap (λ k. area record_words k g.stands.content.records) same_records
                  ∙ ap (λ m. area record_words (length a) m.records) g.stands.is);
              reasons = subst (λ m. Holds f m.reasons (length m.reasons) u₂) g.stands.is
                  (texts_are g.stands.held.reasons);
            }

    pub refused : (q₃ r₃ a₃ : List ℕ) (s : Simulation) →
        q₃ ≡ cleared q₂ (e.state.queue_start * 5) (e.state.items * 5) →
        r₃ ≡ cleared r₂ 0 (e.state.live_runs * 28) → a₃ ≡ replicate (length a₂) 0 → (e.state.«overflow» ≡ 0 → ⊥) →
        s ≡ refusal_m e.state.«overflow» → Simulates f x l n c so_far s q q₃ a a₃ r r₃ u u₂
    refused q₃ r₃ a₃ s cq cr ca z es = record {
      queue = λ t h. no_items t h q₃ cq ∙ ap (λ k. replicate k 0) (w.queue ∙ zeros q q₁ eq);
      runs = λ t h. no_runs t h r₃ cr ∙ ap (λ k. replicate k 0) (w.runs ∙ zeros r r₁ er);
      does = λ t h. by (wholly_m f x l n (beginning c (length q / 5) (length a / 13) (length r / 28) t)) (halted t h);
    }
      where
        by : (p : Halt) → Halts f q₂ a₂ r₂ u₂ v i j (get_or x 3 0) e p → Answers f x s a a₃ u₂ p
        by p g =
            let full : e.state.«overflow» ≡ p.last.«overflow» = ap (λ m. m.«overflow») g.stands.is in
            record {
              answer = es ∙ ap refusal_m full ∙ no_is (get_or x 3 0) p (λ k. z (full ∙ k));
              records = rw (ne_eqb p.last.«overflow» 0 (λ k. z (full ∙ k)))
                  (ca ∙ ap (λ k. replicate k 0) same_records ∙ sym (areas.area_none record_words (length a)));
              reasons = subst (λ m. Holds f m.reasons (length m.reasons) u₂) g.stands.is
                  (texts_are g.stands.held.reasons);
            }
