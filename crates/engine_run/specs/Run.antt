-- A simulation: the machine that begins, where its loop halts, and the answer.
use Rattle.std.specs.Prelude.{ℕ, ◌+◌, ◌-◌, ◌*◌, ◌/◌, ◌≤◌, ◌≡◌, false, not, List, [], eqb, length, get_or, replicate, if◌then◌else◌}
use Rattle.layout.specs.Table.{max_steps_word}
use Rattle.texts.specs.Texts.{Text}
use Rattle.areas.specs.Areas.{area, cleared}
use Rattle.records.specs.Records.{record_words}
use Rattle.reasons.specs.Lists.{Holds}
use Rattle.engine_state.specs.declared.Cells.{Cells}
use Rattle.engine_state.specs.declared.State.{State}
use Rattle.engine_state.specs.Machine.{Machine, Content, entire, machine}
use Rattle.engine_state.specs.Steps.{Held}
use Rattle.engine_schedule.specs.Events.{begun_m}
use Rattle.engine_loop.specs.Loop.{Halt, Halts, loop_m, closed_m}
use Rattle.engine_loop.specs.declared.Ended.{Ended}
use Rattle.engine_run.specs.declared.Simulation.{Simulation}

-- from the machine m to the end
unfoldable pub wholly_m : (f x events : List ℕ) → (count : ℕ) → Machine → Halt
wholly_m f x l n m = closed_m x (loop_m f x (get_or x max_steps_word 0) (begun_m x l n m))

pub record Wholly (f x l : List ℕ) (n : ℕ) (st : State) (e : Ended)
    (q q' a a' r r' u u' v v' i i' c c' : List ℕ) : Type 0 where
  pub queue : length q' ≡ length q
  pub records : length a' ≡ length a
  pub runs : length r' ≡ length r
  pub reasons : length u' ≡ length u
  pub items_fit : (e.state.queue_start + e.state.items) * 5 ≤ length q'
  pub runs_fit : e.state.live_runs * 28 ≤ length r'
  pub does : (k : Content) → Held f q a r u (entire st v i c) k →
      Halts f q' a' r' u' v' i' c' (get_or x max_steps_word 0) e (wholly_m f x l n (machine (entire st v i c) k))

-- the state at the start, and what the areas hold then
abbrev pub start_of : (first reasons : ℕ) → State
start_of i n = record {
  now = 0;
  items = 0;
  queue_start = i;
  records = 0;
  live_runs = 0;
  reasons = n;
  runs_created = 0;
  «overflow» = 0;
}

-- areas with room for so many items, records and runs, and reasons so far
abbrev pub nothing_yet : (items records runs : ℕ) → List Text → Content
nothing_yet i j k l = record { queue_size = i; record_size = j; run_size = k; queue = []; records = []; runs = []; reasons = l }

abbrev pub beginning : Cells → (items records runs : ℕ) → List Text → Machine
beginning c i j k l = record {
  now = 0;
  «overflow» = 0;
  runs_created = 0;
  sequences = replicate 32 0;
  values = c.values;
  versions = c.versions;
  queue_size = i;
  record_size = j;
  run_size = k;
  queue = [];
  records = [];
  runs = [];
  reasons = l;
}

-- n words from `from` on are cleared
pub record Clears (a : List ℕ) (from n : ℕ) (b : List ℕ) : Type 0 where
  pub is : b ≡ cleared a from n
  pub long : length b ≡ length a

-- ---- the answer

unfoldable pub refusal_m : ℕ → Simulation
refusal_m n = record {
  refused = n;
  steps = 0;
  records = 0;
  reasons = 0;
  stop_reason = 0;
  runs_left = false;
  values =
      replicate 32 0;
}

unfoldable pub answer_ended_m : Ended → (values : List ℕ) → Simulation
answer_ended_m e v = record {
  refused = 0;
  steps = e.steps;
  records = e.state.records;
  reasons = e.state.reasons;
  stop_reason = e.stop_reason;
  runs_left = not (eqb e.state.live_runs 0);
  values = v;
}

unfoldable pub answer_m : (total : ℕ) → Halt → Simulation
answer_m total p =
    if eqb p.last.«overflow» 0 then
    record {
      refused = 0;
      steps = total - p.left;
      records = length p.last.records;
      reasons = length p.last.reasons;
      stop_reason = p.stop_reason;
      runs_left = not (eqb (length p.last.runs) 0);
      values = p.last.values;
    }
    else refusal_m p.last.«overflow»

-- the answer is that of the machine, and so are the areas afterwards
pub record Answers (f x : List ℕ) (s : Simulation) (a a' u' : List ℕ) (p : Halt) : Type 0 where
  pub answer : s ≡ answer_m (get_or x max_steps_word 0) p
  pub records : a' ≡ area record_words (length a) (if eqb p.last.«overflow» 0 then p.last.records else [])
  pub reasons : Holds f p.last.reasons (length p.last.reasons) u'

pub record Simulates (f x l : List ℕ) (n : ℕ) (c : Cells) (so_far : ℕ) (s : Simulation)
    (q q' a a' r r' u u' : List ℕ) : Type 0 where
  pub queue : (t : List Text) → Holds f t so_far u → q' ≡ replicate (length q) 0
  pub runs : (t : List Text) → Holds f t so_far u → r' ≡ replicate (length r) 0
  pub does : (t : List Text) → Holds f t so_far u →
      Answers f x s a a' u' (wholly_m f x l n (beginning c (length q / 5) (length a / 13) (length r / 28) t))
