-- Whether the loop takes the queue's next item, over the table x.
use Rattle.std.specs.Prelude.{ℕ, ◌+◌, ◌-◌, ◌<◌, ◌≡◌, List, Option, Some, None, ltb, leb, eqb, length, get_or, if◌then◌else◌}
use Rattle.layout.specs.Table.{horizon_word}
use Rattle.queue.specs.Order.{pop}
use Rattle.queue.specs.Queue.{second_of, taken_of}
use Rattle.queue.specs.declared.Item.{Item}
use Rattle.engine_state.specs.declared.State.{State}
use Rattle.engine_state.specs.Machine.{Machine, Content, entire, machine}
use Rattle.engine_state.specs.Steps.{Held}
use Rattle.engine_schedule.specs.declared.Next.{Next}
use Rattle.engine_schedule.specs.declared.Next.TheVariants.{Stop, Space, Take}

-- what is seen of every machine that the state and the queue's area stand for
pub record Seen {B : Type 0} (F : Machine → B) (q : List ℕ) (st : State) (r : B) : Type 0 where
  pub is : (f a b u v n c : List ℕ) (k : Content) → Held f q a b u (entire st v n c) k → r ≡ F (machine (entire st v n c) k)

unfoldable pub next_after_m : List ℕ → Option Item → Machine → Next
next_after_m x None m = Stop
next_after_m x (Some i) m =
    if leb 10000 (length m.records) then Space else
    if ltb 20000 (length m.queue) then Space else
    if ltb (get_or x horizon_word 0) i.second then Stop else Take

unfoldable pub next_m : List ℕ → Machine → Next
next_m x m = next_after_m x (taken_of (pop second_of m.queue)) m

unfoldable pub why_next_m : (left : ℕ) → Next → ℕ
why_next_m left Stop = 0
why_next_m left Space = 1
why_next_m left Take = if eqb left 0 then 2 else 4

-- 4: the loop goes on; 0 nothing left before the horizon, 1 space, 2 steps, 3 an area is full
unfoldable pub why_m : List ℕ → (left : ℕ) → Machine → ℕ
why_m x left m = if eqb m.«overflow» 0 then why_next_m left (next_m x m) else 3

pub record Why (x : List ℕ) (left : ℕ) (q : List ℕ) (st : State) (r : ℕ) : Type 0 where
  pub seen : Seen (why_m x left) q st r
  pub more : r ≡ 4 → 0 < left

-- ---- a turn

abbrev pub with_turn : (second : ℕ) → State → State
with_turn n st = record {
  now = n;
  items = st.items - 1;
  queue_start = st.queue_start + 1;
  records = st.records;
  live_runs = st.live_runs;
  reasons = st.reasons;
  runs_created = st.runs_created;
  «overflow» = st.«overflow»;
}
