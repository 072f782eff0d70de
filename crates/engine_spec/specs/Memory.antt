-- What the queue, record and run areas hold after an entry that was lent them: word for word, and after refusals too.
use Rattle.std.specs.Prelude.{ℕ, ◌/◌, Bool, ◌&&◌, ◌||◌, List, leb, eqb, length, replicate, if◌then◌else◌}
use Rattle.areas.specs.Areas.{area}
use Rattle.model_spec.specs.Answer.{Answer, answer, refused}
use Rattle.engine_spec.specs.Records.{Trace, Areas}
use Rattle.engine_spec.specs.Simulate.{Simulation, simulate}

-- the three areas' words
pub record Lent : Type 0 where
  pub queue : List ℕ
  pub records : List ℕ
  pub runs : List ℕ

-- how many entries they hold, given how many words an entry of each has
unfoldable pub entries : (words : Areas) → Lent → Areas
entries words l = record {
  queue = length l.queue / words.queue;
  records = length l.records / words.records;
  runs = length l.runs / words.runs;
}

unfoldable pub zeros : List ℕ → List ℕ
zeros l = replicate (length l) 0

unfoldable pub all_zeros : Lent → Lent
all_zeros l = record { queue = zeros l.queue; records = zeros l.records; runs = zeros l.runs }

-- 21 and 41 to 43 come after a simulation has begun
unfoldable pub begins : (number : ℕ) → Bool
begins n = eqb n 21 || leb 41 n && leb n 43

-- `enc` gives a record's words, `shown` the records that the answer reports
module _ (enc : Trace → List ℕ) {A : Type 0} (shown : A → List Trace) where
  -- success: queue and runs are zeros, the record area holds the records, then zeros.
  -- A refusal: all zeros if a simulation has begun, else memory is as it came.
  unfoldable pub lent_after : Answer A → Lent → Lent
  lent_after (answer a) l = record {
    queue = zeros l.queue;
    records = area enc (length l.records) (shown a);
    runs = zeros l.runs;
  }
  lent_after (refused n) l = if begins n then all_zeros l else l

-- after `simulate`
unfoldable pub simulate_lent : (enc : Trace → List ℕ) → (words : Areas) → (file : List ℕ) → Lent → Lent
simulate_lent enc words file l = lent_after enc (λ (s : Simulation). s.trace) (simulate (entries words l) file) l
