-- The loop: a complete one, seen from the cone, is a complete one of the cone's automations alone (`slice`), however many
-- steps each has; so two models alike in the cone have one view at the end (`alike`).
use Rattle.std.specs.Prelude.{if◌then◌else◌}
use Prim.Native.Nat.{ℕ, zero, suc, ◌+◌}
use mathlib.Core.Bool.{Bool, true, false, ◌||◌, false≢true}
use mathlib.Core.List.{List, [], ◌∷◌}
use mathlib.Core.Option.{Option, none, some}
use mathlib.Core.Path.{◌≡◌, refl, sym, ap, ◌∙◌, subst}
use lib.Dec.{leb, ltb}
use lib.ListN.{length}
use Rattle.texts.specs.Lists.{◌▸◌, keep, each}
use Rattle.texts.specs.Texts.{Text}
use Rattle.model_spec.specs.Model.{Automation}
use Rattle.engine_spec.specs.Records.{Run, Item, Engine}
use Rattle.engine_spec.specs.Changes.{with_queue}
use Rattle.engine_spec.specs.Reasons.{space_spent, steps_spent}
use Rattle.engine_spec.specs.Engine.{pop, process, Next, stop, exhausted, take, next_of, Ended, loop}
use Rattle.cone_engine.proofs.Base.{
  keep_again,
  keep_each,
  each_each,
  Every,
  every_keep,
  Case,
  is_true,
  is_false,
  case,
  leb_le,
  some_eq,
  none_some,
}
use Rattle.cone_engine.proofs.Queue.{Taken, late, late_le, pop_empty, pop_least, pop_late, pop_in, pop_out}
use Rattle.cone_engine.proofs.View
use Rattle.cone_engine.proofs.View.{bare}
use Rattle.cone_engine.proofs.Steps
use Rattle.cone_engine.proofs.Scoped

pub cons_nil : {A : Type 0} {x : A} {l : List A} → x ∷ l ≡ [] → ⊥
cons_nil {A} e = false≢true (ap is_nil e)
  where
    is_nil : List A → Bool
    is_nil [] = true
    is_nil (x ∷ l) = false

-- what the loop does next, and why
pub data Goes (h : ℕ) (e : Engine) : Next → Type 0 where
  stops : Every (late (suc h)) e.queue → Goes h e stop
  spent : Goes h e exhausted
  takes : (i : Item) (l : List Item) → pop e.queue ≡ some (i, l) → ltb h i.at ≡ false → Goes h e (take i l)

pub goes : (h : ℕ) (e : Engine) → Goes h e (next_of h e (pop e.queue))
unfolding next_of late
goes h e = go (pop e.queue) refl
  where
    go : (o : Option Taken) → pop e.queue ≡ o → Goes h e (next_of h e o)
    go none p = stops (subst (Every (late (suc h))) (sym (pop_empty e.queue p)) tt)
    go (some (i, l)) p = by (leb 10000 (length e.trace) || ltb 20000 (length e.queue)) (case (ltb h i.at))
      where
        by : (b : Bool) → Case (ltb h i.at)
            → Goes h e (if b then exhausted else if ltb h i.at then stop else take i l)
        by true c = spent
        by false (is_true c) = rw c (stops
            (late_le (suc h) i.at (leb_le (suc h) i.at c) e.queue (pop_least e.queue i l p)))
        by false (is_false c) = rw c (takes i l p c)

module _ (in_e in_a : Text → Bool) where
  -- the view, as an engine
  unfoldable pub strip : Engine → Engine
  strip e = record {
    cells = keep (View.cone_cell in_e in_a) e.cells;
    queue = keep (View.cone_item in_e in_a) e.queue;
    runs = View.bares in_e in_a e.runs;
    made = keep in_a e.made;
    trace = keep (View.cone_trace in_e in_a) e.trace;
    unknown = [];
    overflow = none;
    areas = record { queue = 0; records = 0; runs = 0 };
    start = e.start;
  }

  pub strip_eq : {e c : Engine} → Steps.Like in_e in_a e c → strip e ≡ strip c
  unfolding strip
  strip_eq h = λ i. record {
    cells = h.of_cells i;
    queue = h.of_queue i;
    runs = h.of_runs i;
    made = h.of_made i;
    trace = h.of_trace i;
    unknown = [];
    overflow = none;
    areas = record { queue = 0; records = 0; runs = 0 };
    start = h.of_start i;
  }

  bares_again : (l : List Run) → View.bares in_e in_a (View.bares in_e in_a l) ≡ View.bares in_e in_a l
  unfolding View.bares View.cone_run bare
  bares_again l =
      ap (each bare) (keep_each bare (View.cone_run in_e in_a) (View.cone_run in_e in_a) (λ x. refl)
      (keep (View.cone_run in_e in_a) l))
      ∙ each_each bare bare bare (λ x. refl) (keep (View.cone_run in_e in_a) (keep (View.cone_run in_e in_a) l))
      ∙ ap (each bare) (keep_again (View.cone_run in_e in_a) l)

  strip_like : (e : Engine) → Steps.Like in_e in_a e (strip e)
  unfolding strip
  strip_like e = record {
    of_cells = sym (keep_again (View.cone_cell in_e in_a) e.cells);
    of_queue = sym (keep_again (View.cone_item in_e in_a) e.queue);
    of_runs = sym (bares_again e.runs);
    of_made = sym (keep_again in_a e.made);
    of_trace = sym (keep_again (View.cone_trace in_e in_a) e.trace);
    of_start = refl;
  }

  -- the cone's own loop: none if the steps are spent
  unfoldable pub onward : (h : ℕ) → (Item → List Item → Option Engine) → Engine → Option Taken → Option Engine
  onward h go c none = some c
  onward h go c (some (i, l)) = if ltb h i.at then some c else go i l

  unfoldable pub cone_loop : (rules : List Automation) → (h n : ℕ) → Engine → Option Engine
  cone_loop rules h zero c = onward h (λ i l. none) c (pop c.queue)
  cone_loop rules h (suc n) c =
      onward h (λ i l. cone_loop rules h n (strip (process i.at rules i.work (with_queue l c)))) c (pop c.queue)

  module _ (rules : List Automation) (h : ℕ) where
    onward_stop : (go : Item → List Item → Option Engine) (c : Engine) → Every (late (suc h)) c.queue
        → onward h go c (pop c.queue) ≡ some c
    unfolding onward late
    onward_stop go c k = by (pop c.queue) refl
      where
        by : (o : Option Taken) → pop c.queue ≡ o → onward h go c o ≡ some c
        by none e = refl
        by (some (i, l)) e = rw (pop_late (suc h) c.queue i l k e)

    loop_stop : (n : ℕ) (c : Engine) → Every (late (suc h)) c.queue → cone_loop rules h n c ≡ some c
    unfolding cone_loop
    loop_stop zero c k = onward_stop _ c k
    loop_stop (suc n) c k = onward_stop _ c k

    took_on : (n : ℕ) (c : Engine) (i : Item) (l : List Item) → pop c.queue ≡ some (i, l) → ltb h i.at ≡ false
        → cone_loop rules h (suc n) c ≡ cone_loop rules h n (strip (process i.at rules i.work (with_queue l c)))
    unfolding cone_loop onward
    took_on n c i l p b = rw (p, b)

    -- how a loop that ends went on
    data Went (go : Item → List Item → Option Engine) (c t : Engine) : Type 0 where
      ended : c ≡ t → Every (late (suc h)) c.queue → Went go c t
      took_one : (i : Item) (l : List Item) → pop c.queue ≡ some (i, l) → ltb h i.at ≡ false → go i l ≡ some t
          → Went go c t

    went : (go : Item → List Item → Option Engine) (c t : Engine) → onward h go c (pop c.queue) ≡ some t → Went go c t
    unfolding onward late
    went go c t e = by (pop c.queue) refl e
      where
        by : (o : Option Taken) → pop c.queue ≡ o → onward h go c o ≡ some t → Went go c t
        by none q e = ended (some_eq e) (subst (Every (late (suc h))) (sym (pop_empty c.queue q)) tt)
        by (some (i, l)) q e = by' (case (ltb h i.at))
          where
            by' : Case (ltb h i.at) → Went go c t
            by' (is_true b) = ended (some_eq (rw b at e))
                (late_le (suc h) i.at (leb_le (suc h) i.at b) c.queue (pop_least c.queue i l q))
            by' (is_false b) = took_one i l q b (rw b at e)

    loop_more : (n : ℕ) (c t : Engine) → cone_loop rules h n c ≡ some t → cone_loop rules h (suc n) c ≡ some t
    unfolding cone_loop
    loop_more zero c t e = by (went _ c t e)
      where
        by : Went (λ i l. none) c t → cone_loop rules h (suc zero) c ≡ some t
        by (ended p k) = loop_stop (suc zero) c k ∙ ap some p
        by (took_one i l p b q) = absurd (none_some q)
    loop_more (suc n) c t e = by (went _ c t e) (loop_more n)
      where
        by : Went (λ i l. cone_loop rules h n (strip (process i.at rules i.work (with_queue l c)))) c t
            → ((c t : Engine) → cone_loop rules h n c ≡ some t → cone_loop rules h (suc n) c ≡ some t)
            → cone_loop rules h (suc (suc n)) c ≡ some t
        by (ended p k) ih = loop_stop (suc (suc n)) c k ∙ ap some p
        by (took_one i l p b q) ih = took_on (suc n) c i l p b ∙ ih _ t q

    -- more steps than enough change nothing
    loop_same : (n m : ℕ) (c t u : Engine) → cone_loop rules h n c ≡ some t → cone_loop rules h m c ≡ some u → t ≡ u
    unfolding cone_loop
    loop_same zero m c t u e g = by (went _ c t e)
      where
        by : Went (λ i l. none) c t → t ≡ u
        by (ended p k) = sym p ∙ some_eq (sym (loop_stop m c k) ∙ g)
        by (took_one i l p b q) = absurd (none_some q)
    loop_same (suc n) zero c t u e g = by (went _ c u g)
      where
        by : Went (λ i l. none) c u → t ≡ u
        by (ended p k) = sym (some_eq (sym (loop_stop (suc n) c k) ∙ e)) ∙ p
        by (took_one i l p b q) = absurd (none_some q)
    loop_same (suc n) (suc m) c t u e g = by (went _ c t e) (loop_same n m)
      where
        by : Went (λ i l. cone_loop rules h n (strip (process i.at rules i.work (with_queue l c)))) c t
            → ((c t u : Engine) → cone_loop rules h n c ≡ some t → cone_loop rules h m c ≡ some u → t ≡ u) → t ≡ u
        by (ended p k) ih = sym p ∙ some_eq (sym (loop_stop (suc m) c k) ∙ g)
        by (took_one i l p b q) ih = ih _ t u q (sym (took_on m c i l p b) ∙ g)

  -- one step of the whole loop, seen from the cone
  one_in : (rules : List Automation) (h n : ℕ) (s : Engine) (i : Item) (l : List Item)
      → Every (Steps.good_rule in_e in_a) rules → Every (Steps.good_run in_e in_a) s.runs
      → pop s.queue ≡ some (i, l) → ltb h i.at ≡ false → View.cone_work in_e in_a i.work ≡ true
      → cone_loop (keep (View.cone_rule in_e in_a) rules) h (suc n) (strip s) ≡ cone_loop
      (keep (View.cone_rule in_e in_a) rules) h n (strip (process i.at rules i.work (with_queue l s)))
  one_in rules h n s i l good g p b c =
      took_on (keep (View.cone_rule in_e in_a) rules) h n (strip s) i (keep (View.cone_item in_e in_a) l)
      (unfold strip in (pop_in (View.cone_item in_e in_a) s.queue i l p (unfold View.cone_item in c))) b
      ∙ ap (cone_loop (keep (View.cone_rule in_e in_a) rules) h n)
      (sym (strip_eq (Steps.process_in in_e in_a i.at rules i.work (with_queue l s)
      (with_queue (keep (View.cone_item in_e in_a) l) (strip s)) good (unfold with_queue in g) c
      (View.l_with_queue in_e in_a (strip_like s) l (keep (View.cone_item in_e in_a) l)
      (sym (keep_again (View.cone_item in_e in_a) l))))))

  one_out : (rules : List Automation) (s : Engine) (i : Item) (l : List Item) → Every (Steps.good_rule in_e in_a) rules
      → Every (Steps.good_run in_e in_a) s.runs
      → pop s.queue ≡ some (i, l) → View.cone_work in_e in_a i.work ≡ false
      → strip (process i.at rules i.work (with_queue l s)) ≡ strip s
  one_out rules s i l good g p c =
      strip_eq (View.like_trans in_e in_a
      (Steps.process_out in_e in_a i.at rules i.work (with_queue l s) good (unfold with_queue in g) c)
      (View.o_with_queue in_e in_a s l (pop_out (View.cone_item in_e in_a) s.queue i l p (unfold View.cone_item in c))))

  view_late : (n : ℕ) (s : Engine) → Every (late n) s.queue → Every (late n) (strip s).queue
  unfolding strip
  view_late n s k = every_keep (late n) (View.cone_item in_e in_a) s.queue k

  module _ (rules : List Automation) (h : ℕ) (good : Every (Steps.good_rule in_e in_a) rules) where
    abbrev Seen : ℕ → Engine → Ended → Type 0
    Seen n s d = d.incomplete ≡ [] → cone_loop (keep (View.cone_rule in_e in_a) rules) h n (strip s) ≡ some
        (strip d.engine)

    pub slice : (n k : ℕ) (s : Engine) → Every (Steps.good_run in_e in_a) s.runs → Seen n s (loop rules h n k s)
    unfolding loop
    slice zero k s g = by (goes h s)
      where
        by : {x : Next} → Goes h s x
            → Seen zero s (elim x [
              | stop ↦ record { engine = s; steps = k; incomplete = [] }
              | exhausted ↦ record { engine = s; steps = k; incomplete = space_spent ∷ [] }
              | take i l ↦ record { engine = s; steps = k; incomplete = steps_spent ∷ [] }
            ])
        by (stops q) e = loop_stop (keep (View.cone_rule in_e in_a) rules) h zero (strip s) (view_late (suc h) s q)
        by spent e = absurd (cons_nil e)
        by (takes i l p b) e = absurd (cons_nil e)
    slice (suc n) k s g = by (goes h s) (slice n)
      where
        by : {x : Next} → Goes h s x
            → ((k : ℕ) (s : Engine) → Every (Steps.good_run in_e in_a) s.runs → Seen n s (loop rules h n k s))
            → Seen (suc n) s (elim x [
              | stop ↦ record { engine = s; steps = k; incomplete = [] }
              | exhausted ↦ record { engine = s; steps = k; incomplete = space_spent ∷ [] }
              | take i l ↦ loop rules h n (k + 1) (s ▸ with_queue l ▸ process i.at rules i.work)
            ])
        by (stops q) ih e = loop_stop (keep (View.cone_rule in_e in_a) rules) h (suc n) (strip s) (view_late (suc h) s q)
        by spent ih e = absurd (cons_nil e)
        by (takes i l p b) ih e = side (case (View.cone_work in_e in_a i.work))
          where
            rest : cone_loop (keep (View.cone_rule in_e in_a) rules) h n
                (strip (process i.at rules i.work (with_queue l s)))
                ≡ some (strip (loop rules h n (k + 1) (process i.at rules i.work (with_queue l s))).engine)
            rest = ih (k + 1) (process i.at rules i.work (with_queue l s))
                (Scoped.process_good in_e in_a i.at rules i.work (with_queue l s) good (unfold with_queue in g)) e

            side : Case (View.cone_work in_e in_a i.work)
                → cone_loop (keep (View.cone_rule in_e in_a) rules) h (suc n) (strip s) ≡ some
                (strip (loop rules h n (k + 1) (process i.at rules i.work (with_queue l s))).engine)
            side (is_true c) = one_in rules h n s i l good g p b c ∙ rest
            side (is_false c) = loop_more (keep (View.cone_rule in_e in_a) rules) h n (strip s) _
                (ap (cone_loop (keep (View.cone_rule in_e in_a) rules) h n) (sym (one_out rules s i l good g p c)) ∙ rest)

  -- two models alike in the cone
  pub alike : (rules rules' : List Automation) (h : ℕ) → Every (Steps.good_rule in_e in_a) rules
      → Every (Steps.good_rule in_e in_a) rules'
      → keep (View.cone_rule in_e in_a) rules ≡ keep (View.cone_rule in_e in_a) rules'
      → (n n' : ℕ) (s s' : Engine) → Every (Steps.good_run in_e in_a) s.runs
      → Every (Steps.good_run in_e in_a) s'.runs → strip s ≡ strip s'
      → (loop rules h n 0 s).incomplete ≡ [] → (loop rules' h n' 0 s').incomplete ≡ []
      → strip (loop rules h n 0 s).engine ≡ strip (loop rules' h n' 0 s').engine
  alike rules rules' h good good' same n n' s s' g g' e p q =
      loop_same (keep (View.cone_rule in_e in_a) rules) h n n' (strip s) _ _
      (slice rules h good n 0 s g p)
      (rw (same, e) (slice rules' h good' n' 0 s' g' q))
