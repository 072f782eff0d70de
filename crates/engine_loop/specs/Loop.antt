-- The loop of a simulation, over the file f and the table x.
use Rattle.std.specs.Prelude.{ℕ, zero, suc, ◌+◌, ◌-◌, ◌≡◌, true, false, List, Option, Some, None, eqb, length, get_or, if◌then◌else◌}
use Rattle.layout.specs.Table.{horizon_word, max_steps_word}
use Rattle.records.specs.Kinds.{horizon_kind}
use Rattle.queue.specs.Order.{pop, left_of}
use Rattle.queue.specs.Queue.{second_of, taken_of}
use Rattle.queue.specs.declared.Item.{Item}
use Rattle.engine_state.specs.declared.State.{State}
use Rattle.engine_state.specs.Machine.{Machine, Content, entire, machine, put_now, put_queue}
use Rattle.engine_state.specs.Changes.{log_plain_m}
use Rattle.engine_state.specs.Steps.{Held, Stands, Side, goes, told, SideTold}
use Rattle.engine_dispatch.specs.Dispatch.{process_m}
use Rattle.engine_loop.specs.declared.Ended.{Ended}
use Rattle.engine_schedule.specs.Next.{why_m}

-- ---- a turn

-- the queue without the item that was taken, at its second
abbrev pub took_m : Item → Machine → Machine
took_m i m = put_now i.second (put_queue (left_of second_of (pop second_of m.queue)) m)

unfoldable pub turn_with_m : (f x : List ℕ) → Option Item → Machine → Machine
turn_with_m f x (Some i) m = process_m f x i.work (took_m i m)
turn_with_m f x None m = m

unfoldable pub turn_m : (f x : List ℕ) → Machine → Machine
turn_m f x m = turn_with_m f x (taken_of (pop second_of m.queue)) m

-- ---- the loop

-- where it ended: the machine, the steps left, and why
pub record Halt : Type 0 where
  pub last : Machine
  pub left : ℕ
  pub stop_reason : ℕ

abbrev pub halt : Machine → (left why : ℕ) → Halt
halt m l w = record { last = m; left = l; stop_reason = w }

unfoldable pub loop_m : (f x : List ℕ) → (left : ℕ) → Machine → Halt
loop_m f x zero m = halt m zero (why_m x zero m)
loop_m f x (suc n) m = elim (eqb (why_m x (suc n) m) 4) [
  | true ↦ loop_m f x n (turn_m f x m)
  | false ↦ halt m (suc n) (why_m x (suc n) m)
]

-- the state with its arrays, the steps and the reason stand for the halt p, which had `total` steps
pub record Halts (f q a r u v n c : List ℕ) (total : ℕ) (e : Ended) (p : Halt) : Type 0 where
  pub stands : Stands f q a r u (entire e.state v n c) p.last
  pub steps : e.steps ≡ total - p.left
  pub stop_reason : e.stop_reason ≡ p.stop_reason

pub record Ends (f x : List ℕ) (st : State) (e : Ended) (q q' a a' r r' u u' v v' n n' c c' : List ℕ) : Type 0 where
  pub queue : Side 5 (goes q q') (st.queue_start + st.items) (e.state.queue_start + e.state.items)
  pub records : Side 13 (goes a a') st.records e.state.records
  pub runs : Side 28 (goes r r') st.live_runs e.state.live_runs
  pub reasons : SideTold (told f u u') st.reasons e.state.reasons
  pub does : (k : Content) → Held f q a r u (entire st v n c) k →
      Halts f q' a' r' u' v' n' c' (get_or x max_steps_word 0) e
      (loop_m f x (get_or x max_steps_word 0) (machine (entire st v n c) k))

-- ---- after it

unfoldable pub horizon_m : List ℕ → Machine → Machine
horizon_m x m = log_plain_m horizon_kind (put_now (get_or x horizon_word 0) m)

-- a simulation that reached the horizon with no run left says so
unfoldable pub closed_m : List ℕ → Halt → Halt
closed_m x p = if eqb p.stop_reason 0 then (if eqb (length p.last.runs) 0
    then halt (horizon_m x p.last) p.left 0 else p) else p

pub record Closes (x : List ℕ) (d e : Ended) (a a' : List ℕ) : Type 0 where
  pub queue : e.state.queue_start + e.state.items ≡ d.state.queue_start + d.state.items
  pub records : Side 13 (goes a a') d.state.records e.state.records
  pub runs : e.state.live_runs ≡ d.state.live_runs
  pub does : (f q r u v n c : List ℕ) (total : ℕ) (p : Halt) → Halts f q a r u v n c total d p →
      Halts f q a' r u v n c total e (closed_m x p)
