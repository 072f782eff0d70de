-- What a function does to the machine that its state and areas stand for.
use Rattle.std.specs.Prelude.{ℕ, ◌+◌, ◌*◌, ◌/◌, ◌≤◌, ◌≡◌, List, length}
use denote.Triple.Both.{Both}
use Rattle.std.specs.Borrow.{MutBor}
use Rattle.layout.specs.Sizes.{simulation_reason_words}
use Rattle.areas.specs.Areas.{area}
use Rattle.queue.specs.Queue.{laid}
use Rattle.queue.specs.declared.Item.{Item}
use Rattle.records.specs.Records.{record_words}
use Rattle.records.specs.declared.Record.{Record}
use Rattle.runs.specs.Runs.{run_words}
use Rattle.runs.specs.declared.Run.{Run}
use Rattle.reasons.specs.Lists.{Holds}
use Rattle.engine_state.specs.declared.State.{State}
use Rattle.engine_state.specs.Machine.{Machine, Content, Entire, entire, machine}

-- an area that holds a list of n entries, with room for `size`; the queue's entries start at `first`
pub record Queued (q : List ℕ) (first n size : ℕ) (l : List Item) : Type 0 where
  pub room : length q / 5 ≡ size
  pub many : n ≡ length l
  pub is : q ≡ laid first (length q) l

pub record Logged (a : List ℕ) (n size : ℕ) (l : List Record) : Type 0 where
  pub room : length a / 13 ≡ size
  pub many : n ≡ length l
  pub is : a ≡ area record_words (length a) l

pub record Running (r : List ℕ) (n size : ℕ) (l : List Run) : Type 0 where
  pub room : length r / 28 ≡ size
  pub many : n ≡ length l
  pub is : r ≡ area run_words (length r) l

-- the areas of queue, records, runs and reasons hold this, over the file f
pub record Held (f q a r u : List ℕ) (st : Entire) (k : Content) : Type 0 where
  pub queue : Queued q st.queue_start st.items k.queue_size k.queue
  pub records : Logged a st.records k.record_size k.records
  pub runs : Running r st.live_runs k.run_size k.runs
  pub reasons : Holds f k.reasons st.reasons u

-- the state and the areas stand for the machine m
pub record Stands (f q a r u : List ℕ) (st : Entire) (m : Machine) : Type 0 where
  pub content : Content
  pub held : Held f q a r u st content
  pub is : machine st content ≡ m

-- an area that a function isn't lent, or the area before and after
pub data Lent : Type 0 where
  kept : Lent
  goes : (b c : List ℕ) → Lent

-- the area that a contract calls q: before and after
abbrev pub by : Both (MutBor (List ℕ)) (MutBor (List ℕ)) → Lent
by q = goes q.entry.now q.exit.now

-- the area of reasons, with the file
pub data Listing : Type 0 where
  still : Listing
  told : (f b c : List ℕ) → Listing

-- the number of entries before and after: the same, or it fits. The queue counts those ahead of its start too
abbrev pub Side : (size : ℕ) → Lent → (m n : ℕ) → Type 0
Side size kept m n = n ≡ m
Side size (goes b c) m n = (length c ≡ length b) × (n * size ≤ length c)

abbrev pub SideTold : Listing → (m n : ℕ) → Type 0
SideTold still m n = n ≡ m
SideTold (told f b c) m n = (length c ≡ length b) × (n * 5 ≤ length c)

-- the area before and after, if the function isn't lent it: x
abbrev pub first : Lent → List ℕ → List ℕ
first kept x = x
first (goes b c) x = b

abbrev pub last : Lent → List ℕ → List ℕ
last kept x = x
last (goes b c) x = c

abbrev pub file : Listing → List ℕ → List ℕ
file still x = x
file (told f b c) x = f

abbrev pub first_told : Listing → List ℕ → List ℕ
first_told still x = x
first_told (told f b c) x = b

abbrev pub last_told : Listing → List ℕ → List ℕ
last_told still x = x
last_told (told f b c) x = c

-- from the state st to s, with the areas of queue, records, runs and reasons: if the areas hold k before, they stand for F k
-- after
pub record Steps (F : Content → Machine) (st s : Entire) (Q A R : Lent) (U : Listing) : Type 0 where
  pub queue : Side 5 Q (st.queue_start + st.items) (s.queue_start + s.items)
  pub records : Side 13 A st.records s.records
  pub runs : Side 28 R st.live_runs s.live_runs
  pub reasons : SideTold U st.reasons s.reasons
  pub does : (f q a r u : List ℕ) (k : Content) → Held (file U f) (first Q q) (first A a) (first R r) (first_told U u) st k →
      Stands (file U f) (last Q q) (last A a) (last R r) (last_told U u) s (F k)

-- each machine that stands before, stands after F
abbrev pub Turns : (Machine → Machine) → Entire → Entire → (Q A R : Lent) → Listing → Type 0
Turns F st s Q A R U = Steps (λ k. F (machine st k)) st s Q A R U

-- what a function does that may be lent values, versions and sequences too
pub record Moves (F : Machine → Machine) (st s : State) (Q A R : Lent) (U : Listing) (L N C : Lent) : Type 0 where
  pub queue : Side 5 Q (st.queue_start + st.items) (s.queue_start + s.items)
  pub records : Side 13 A st.records s.records
  pub runs : Side 28 R st.live_runs s.live_runs
  pub reasons : SideTold U st.reasons s.reasons
  pub does : (v n c : List ℕ) → Turns F (entire st (first L v) (first N n) (first C c))
      (entire s (last L v) (last N n) (last C c)) Q A R U

-- what a function does that is lent none of the three
abbrev pub Does : (Machine → Machine) → (st s : State) → (Q A R : Lent) → Listing → Type 0
Does F st s Q A R U = Moves F st s Q A R U kept kept kept

-- ---- room for what the areas hold

abbrev pub FitsQ : State → List ℕ → Type 0
FitsQ st q = (st.queue_start + st.items) * 5 ≤ length q

abbrev pub FitsQa : State → (q a : List ℕ) → Type 0
FitsQa st q a = ((st.queue_start + st.items) * 5 ≤ length q) × (st.records * 13 ≤ length a)

abbrev pub FitsQr : State → (q r : List ℕ) → Type 0
FitsQr st q r = ((st.queue_start + st.items) * 5 ≤ length q) × (st.live_runs * 28 ≤ length r)

abbrev pub FitsAr : State → (a r : List ℕ) → Type 0
FitsAr st a r = (st.records * 13 ≤ length a) × (st.live_runs * 28 ≤ length r)

abbrev pub FitsQar : State → (q a r : List ℕ) → Type 0
FitsQar st q a r = ((st.queue_start + st.items) * 5 ≤ length q)
    × ((st.records * 13 ≤ length a) × (st.live_runs * 28 ≤ length r))

abbrev pub FitsQau : State → (q a u : List ℕ) → Type 0
FitsQau st q a u = ((st.queue_start + st.items) * 5 ≤ length q)
    × ((st.records * 13 ≤ length a) × ((st.reasons * 5 ≤ length u) × (simulation_reason_words ≤ length u)))

abbrev pub Fits : State → (q a r u : List ℕ) → Type 0
Fits st q a r u = ((st.queue_start + st.items) * 5 ≤ length q)
    × ((st.records * 13 ≤ length a) × ((st.live_runs * 28 ≤ length r)
    × ((st.reasons * 5 ≤ length u) × (simulation_reason_words ≤ length u))))
