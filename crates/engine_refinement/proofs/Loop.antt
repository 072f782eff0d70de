-- The loop: the machine takes the items that the definition takes, ends after as many steps, and for the same reason.
-- Where the machine found an area full, the definition says which.
use Rattle.std.specs.Prelude.{if◌then◌else◌}
use mathlib.Core.Path.{◌≡◌, refl, sym, ap, ◌∙◌}
use mathlib.Core.List.{List, [], ◌∷◌}
use mathlib.Core.Bool.{Bool, true, false, cond, ◌||◌}
use mathlib.Core.Option.{Option, none, some}
use Prim.Native.Nat.{ℕ, zero, suc, ◌+◌, ◌*◌, ◌≤◌}
use native.Mathlib.Omega.{arith}
use lib.ListN.{length}
use lib.Dec.{ltb, leb, eqb}
use borrow.Author.Tests.{eq-eqb, ne_eqb, ltb-false}
use Rattle.texts.specs.Lists.{each}
use Rattle.texts.specs.Texts.{Text}
use Rattle.model_spec.specs.Model.{Model}
use Rattle.queue.specs.Order.{left_of}
use Rattle.queue.specs.Order as order
use Rattle.queue.specs.Queue.{second_of, taken_of}
use Rattle.queue.specs.declared.Item.{Item as QItem}
use Rattle.engine_spec.specs.Records.{Item, Engine}
use Rattle.engine_spec.specs.Changes.{with_queue}
use Rattle.engine_spec.specs.Reasons.{space_spent, steps_spent}
use Rattle.engine_spec.specs.Engine.{process, sooner, pop, Next, stop, exhausted, take, next_of, Ended, loop}
use Rattle.engine_spec.proofs.Lists.{Each}
use Rattle.engine_spec.proofs.Closed.{loop_closed}
use Rattle.model_walk.proofs.Found.{Case, is_true, is_false, case}
use Rattle.engine_state.specs.Machine.{Machine, put_now, put_queue}
use Rattle.engine_dispatch.specs.Dispatch.{process_m}
use Rattle.engine_schedule.specs.declared.Next.{Next as ANext}
use Rattle.engine_schedule.specs.declared.Next.TheVariants as nexts
use Rattle.engine_schedule.specs.Next.{next_after_m, next_m, why_next_m, why_m}
use Rattle.engine_loop.specs.Loop.{turn_with_m, turn_m, Halt, halt, loop_m}
use Rattle.engine_refinement.specs.Meaning.{item_of, record_of, Tabled}
use Rattle.engine_refinement.specs.Events.{GoodWork}
use Rattle.engine_refinement.proofs.Full.{Stuck}
use Rattle.engine_refinement.proofs.Overflow.{overflow_stays}
use Rattle.engine_refinement.proofs.Relation.{Live, Sim, live, dead, weaker}
use Rattle.engine_refinement.proofs.Update.{Over}
use Rattle.engine_refinement.proofs.Handlers.{process_is}
use Rattle.engine_refinement.proofs.Lists as lists

-- why the loop ended, as texts
unfoldable pub reasons_of : ℕ → List Text
reasons_of w = if eqb w 0 then [] else if eqb w 1 then space_spent ∷ [] else steps_spent ∷ []

module _ (f x : List ℕ) (ts : List Text) (mo : Model) (tb : Tabled f x ts mo) where
  abbrev L : ℕ → ℕ → Machine → Engine → Type 0
  L = Live f x ts mo tb

  abbrev S : ℕ → ℕ → Machine → Engine → Type 0
  S = Sim f x ts mo tb

  abbrev I : QItem → Item
  I = item_of x ts

  abbrev Good : QItem → Type 0
  Good i = GoodWork f x ts mo i.work

  abbrev horizon : ℕ
  horizon = mo.scenario.limits.horizon

  -- ---- the item that is taken

  abbrev taken : Option (QItem × List QItem) → Option (Item × List Item)
  taken none = none
  taken (some (i, l)) = some (I i, each I l)

  pop_is : (l : List QItem) → pop (each I l) ≡ taken (order.pop second_of l)
  unfolding pop sooner order.pop order.sooner each item_of
  pop_is [] = refl
  pop_is (i ∷ l) = ap (sooner (I i) (each I l)) (pop_is l) ∙ by (order.pop second_of l)
    where
      or : (b : Bool) (j : QItem) (k : List QItem) →
          (if b then some (I i, each I l) else some (I j, I i ∷ each I k)) ≡ taken (cond b (some (i, l)) (some (j, i ∷ k)))
      or true j k = refl
      or false j k = refl

      by : (o : Option (QItem × List QItem)) → sooner (I i) (each I l) (taken o) ≡ taken (order.sooner second_of i l o)
      by none = refl
      by (some (j, k)) = or (leb i.second j.second) j k

  -- those left are good, and so is the one taken
  abbrev GoodPop : Option (QItem × List QItem) → Type 0
  GoodPop none = Unit {0}
  GoodPop (some (i, l)) = Good i × Each Good l

  pop_good : (l : List QItem) → Each Good l → GoodPop (order.pop second_of l)
  unfolding order.pop order.sooner
  pop_good [] h = tt
  pop_good (i ∷ l) h = by (order.pop second_of l) (pop_good l h.1)
    where
      or : (b : Bool) (j : QItem) (k : List QItem) → Good j × Each Good k → GoodPop (cond b (some (i, l)) (some (j, i ∷ k)))
      or true j k g = h
      or false j k g = (g.0, (h.0, g.1))

      by : (o : Option (QItem × List QItem)) → GoodPop o → GoodPop (order.sooner second_of i l o)
      by none g = h
      by (some (j, k)) g = or (leb i.second j.second) j k g

  -- ---- what comes next

  data NextIs (m : Machine) (a : ANext) (b : Next) : Type 0 where
    stops : a ≡ nexts.Stop → b ≡ stop → NextIs m a b
    spends : a ≡ nexts.Space → b ≡ exhausted → NextIs m a b
    goes : (i : QItem) (k : List QItem) → order.pop second_of m.queue ≡ some (i, k) → Good i → Each Good k →
        i.second ≤ horizon → a ≡ nexts.Take → b ≡ take (I i) (each I k) → NextIs m a b

  next_is : {now room : ℕ} {m : Machine} {e : Engine} → L now room m e →
      NextIs m (next_m x m) (next_of horizon e (pop e.queue))
  unfolding next_m next_after_m next_of item_of
  next_is {now} {room} {m} {e} l =
      rw (ap pop l.queue.is ∙ pop_is m.queue)
      (by (order.pop second_of m.queue) refl (pop_good m.queue l.queue.good))
    where
      long_trace : length e.trace ≡ length m.records
      long_trace = ap length l.records.is ∙ lists.each_length (record_of x ts) m.records

      long_queue : length e.queue ≡ length m.queue
      long_queue = ap length l.queue.is ∙ lists.each_length I m.queue

      cases : (i : QItem) (k : List QItem) → order.pop second_of m.queue ≡ some (i, k) → Good i → Each Good k →
          (a b : Bool) → Case (ltb horizon i.second) →
          NextIs m
          (if a then nexts.Space else if b then nexts.Space else if ltb horizon i.second then nexts.Stop else nexts.Take)
          (if a || b then exhausted else if ltb horizon i.second then stop else take (I i) (each I k))
      cases i k p g q true b c = spends refl refl
      cases i k p g q false true c = spends refl refl
      cases i k p g q false false (is_true c) = stops (rw c) (rw c)
      cases i k p g q false false (is_false c) = goes i k p g q (ltb-false horizon i.second c) (rw c) (rw c)

      by : (o : Option (QItem × List QItem)) → order.pop second_of m.queue ≡ o → GoodPop o →
          NextIs m (next_after_m x (taken_of o) m) (next_of horizon e (taken o))
      by none p g = stops refl refl
      by (some (i, k)) p g =
          rw (tb.horizon, long_trace, long_queue)
          (cases i k p g.0 g.1 (leb 10000 (length m.records)) (ltb 20000 (length m.queue))
          (case (ltb horizon i.second)))

  -- ---- a turn

  turn_law : (m : Machine) (i : QItem) (k : List QItem) → order.pop second_of m.queue ≡ some (i, k) →
      turn_m f x m ≡ process_m f x i.work (put_now i.second (put_queue k m))
  unfolding turn_m turn_with_m
  turn_law m i k p =
      ap (λ (o : Option (QItem × List QItem)). turn_with_m f x (taken_of o) m) p
      ∙ ap
      (λ (o : Option (QItem × List QItem)). process_m f x i.work (put_now i.second (put_queue (left_of second_of o) m))) p

  took_is : {now room : ℕ} {m : Machine} {e : Engine} → L now room m e → (i : QItem) (k : List QItem) → Each Good k →
      i.second ≤ horizon → L i.second room (put_now i.second (put_queue k m)) (with_queue (each I k) e)
  unfolding with_queue
  took_is l i k q h = record {
    time = refl;
    soon = omega (arith, tb.day);
    free = l.free;
    calm = l.calm;
    queue =
        record { is = refl; good = q };
    records = l.records;
    runs = l.runs;
    cells = l.cells;
    reasons = l.reasons;
    made =
        l.made;
    low = l.low;
    sizes = l.sizes;
    start = l.start;
  }

  turn_is : {now room : ℕ} {m : Machine} {e : Engine} → L now (room + 32) m e → (i : QItem) (k : List QItem) →
      order.pop second_of m.queue ≡ some (i, k) → Good i → Each Good k → i.second ≤ horizon →
      S i.second room (turn_m f x m) (process (I i).at mo.rules (I i).work (with_queue (each I k) e))
  unfolding item_of
  turn_is {now} {room} {m} {e} l i k p g q h =
      rw (turn_law m i k p) (process_is f x ts mo tb (took_is l i k q h) i.work g)

  -- ---- the loop

  pub data Ends (p : Halt) (d : Ended) (total : ℕ) : Type 0 where
    lives : (now : ℕ) → L now 0 p.last d.engine → d.steps + p.left ≡ total → p.stop_reason ≤ 2 →
        d.incomplete ≡ reasons_of p.stop_reason → Ends p d total
    stuck : (n : ℕ) → (n ≡ 0 → ⊥) → Stuck n p.last → d.engine.overflow ≡ some n → p.stop_reason ≡ 3 → Ends p d total

  -- a full machine stops at once
  full_why : (left n : ℕ) (m : Machine) → (n ≡ 0 → ⊥) → Stuck n m → why_m x left m ≡ 3
  unfolding why_m
  full_why left n m z p = rw (ne_eqb m.«overflow» 0 (λ e. z (sym p.is ∙ e)))

  free_why : (left : ℕ) (m : Machine) → m.«overflow» ≡ 0 → why_m x left m ≡ why_next_m left (next_m x m)
  unfolding why_m
  free_why left m e = rw (eq-eqb m.«overflow» 0 e)

  loop_stop : (n : ℕ) (m : Machine) (w : ℕ) → why_m x (suc n) m ≡ w → eqb w 4 ≡ false → loop_m f x (suc n) m ≡ halt m (suc n) w
  unfolding loop_m
  loop_stop n m w e h = stopped (ap (λ (i : ℕ). eqb i 4) e ∙ h) ∙ ap (halt m (suc n)) e
    where
      stopped : eqb (why_m x (suc n) m) 4 ≡ false → loop_m f x (suc n) m ≡ halt m (suc n) (why_m x (suc n) m)
      stopped b = rw (b, loop_m)

  loop_go : (n : ℕ) (m : Machine) → why_m x (suc n) m ≡ 4 → loop_m f x (suc n) m ≡ loop_m f x n (turn_m f x m)
  unfolding loop_m
  loop_go n m e = rw (e, loop_m)

  loop_end : (m : Machine) (w : ℕ) → why_m x 0 m ≡ w → loop_m f x 0 m ≡ halt m 0 w
  unfolding loop_m
  loop_end m w e = rw e

  over_loop : (n left steps : ℕ) (e : Engine) → Over n e → Over n (loop mo.rules horizon left steps e).engine
  over_loop n left steps e o = loop_closed (Over n) (overflow_stays n) mo.rules horizon left steps e o

  -- the definition's loop, by what comes next
  module _ (n : ℕ) (e : Engine) where
    stop_at : (left : ℕ) → next_of horizon e (pop e.queue) ≡ stop →
        loop mo.rules horizon left n e ≡ record { engine = e; steps = n; incomplete = [] }
    unfolding loop
    stop_at zero p = rw (p, loop)
    stop_at (suc left) p = rw (p, loop)

    space_at : (left : ℕ) → next_of horizon e (pop e.queue) ≡ exhausted →
        loop mo.rules horizon left n e ≡ record { engine = e; steps = n; incomplete = space_spent ∷ [] }
    unfolding loop
    space_at zero p = rw (p, loop)
    space_at (suc left) p = rw (p, loop)

    steps_at : (i : Item) (l : List Item) → next_of horizon e (pop e.queue) ≡ take i l →
        loop mo.rules horizon 0 n e ≡ record { engine = e; steps = n; incomplete = steps_spent ∷ [] }
    unfolding loop
    steps_at i l p = rw (p, loop)

    take_at : (left : ℕ) (i : Item) (l : List Item) → next_of horizon e (pop e.queue) ≡ take i l →
        loop mo.rules horizon (suc left) n e ≡ loop mo.rules horizon left (n + 1)
        (process i.at mo.rules i.work (with_queue l e))
    unfolding loop
    take_at left i l p = rw (p, loop)

  -- the counters have room for 32 at each step that is left
  pub loop_is : (left steps : ℕ) {now room : ℕ} {m : Machine} {e : Engine} → left * 32 ≤ room → S now room m e →
      Ends (loop_m f x left m) (loop mo.rules horizon left steps e) (steps + left)
  unfolding why_next_m reasons_of
  loop_is zero steps {now} {room} {m} {e} r (dead n z p o) =
      stuck n z (rw (loop_end m 3 (full_why 0 n m z p)) p) (over_loop n 0 steps e o)
      (ap (λ (h : Halt). h.stop_reason) (loop_end m 3 (full_why 0 n m z p)))
  loop_is (suc left) steps {now} {room} {m} {e} r (dead n z p o) =
      stuck n z (rw (loop_stop left m 3 (full_why (suc left) n m z p) refl) p) (over_loop n (suc left) steps e o)
      (ap (λ (h : Halt). h.stop_reason) (loop_stop left m 3 (full_why (suc left) n m z p) refl))
  loop_is zero steps {now} {room} {m} {e} r (live l) = by (next_is l)
    where
      by : NextIs m (next_m x m) (next_of horizon e (pop e.queue)) →
          Ends (loop_m f x 0 m) (loop mo.rules horizon 0 steps e) (steps + 0)
      by (stops a b) =
          rw (loop_end m 0 (free_why 0 m l.free ∙ ap (why_next_m 0) a), stop_at steps e 0 b)
          (lives now (weaker f x ts mo tb (omega arith) l) refl (omega arith) refl)
      by (spends a b) =
          rw (loop_end m 1 (free_why 0 m l.free ∙ ap (why_next_m 0) a), space_at steps e 0 b)
          (lives now (weaker f x ts mo tb (omega arith) l) refl (omega arith) refl)
      by (goes i k p g q h a b) =
          rw (loop_end m 2 (free_why 0 m l.free ∙ ap (why_next_m 0) a), steps_at steps e (I i) (each I k) b)
          (lives now (weaker f x ts mo tb (omega arith) l) refl (omega arith) refl)
  loop_is (suc left) steps {now} {room} {m} {e} r (live l) =
      by (next_is l) (λ t n d y. loop_is left (steps + 1) (omega arith) y)
    where
      by : NextIs m (next_m x m) (next_of horizon e (pop e.queue)) →
          ((t : ℕ) (n : Machine) (d : Engine) → S t (left * 32) n d →
          Ends (loop_m f x left n) (loop mo.rules horizon left (steps + 1) d) (steps + 1 + left)) →
          Ends (loop_m f x (suc left) m) (loop mo.rules horizon (suc left) steps e) (steps + suc left)
      by (stops a b) ih =
          rw (
            loop_stop left m 0 (free_why (suc left) m l.free ∙ ap (why_next_m (suc left)) a) refl,
            stop_at steps e (suc left) b,
          )
          (lives now (weaker f x ts mo tb (omega arith) l) refl (omega arith) refl)
      by (spends a b) ih =
          rw (
            loop_stop left m 1 (free_why (suc left) m l.free ∙ ap (why_next_m (suc left)) a) refl,
            space_at steps e (suc left) b,
          )
          (lives now (weaker f x ts mo tb (omega arith) l) refl (omega arith) refl)
      by (goes i k p g q h a b) ih =
          let w : why_m x (suc left) m ≡ 4 = free_why (suc left) m l.free ∙ ap (why_next_m (suc left)) a
          ∙ rw (ne_eqb (suc left) 0 (λ o. absurd (omega arith))) in
          let z : steps + suc left ≡ steps + 1 + left = omega arith in
          rw (loop_go left m w, take_at steps e left (I i) (each I k) b, z)
          (ih i.second _ _ (turn_is (weaker f x ts mo tb (omega arith) l) i k p g q h))
