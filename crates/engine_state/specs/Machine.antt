-- The machine of a simulation over places: what the state and the areas hold together.
use Rattle.std.specs.Prelude.{ℕ, ◌+◌, ◌-◌, List, ltb, leb, get_or, set, if◌then◌else◌}
use Rattle.texts.specs.Texts.{Text}
use Rattle.queue.specs.declared.Item.{Item}
use Rattle.records.specs.declared.Record.{Record}
use Rattle.runs.specs.declared.Run.{Run}
use Rattle.engine_state.specs.declared.Cells.{Cells}
use Rattle.engine_state.specs.declared.State.{State}

-- one more, and a sum of seconds; neither passes the largest word
unfoldable pub more : ℕ → ℕ
more x = if ltb x 4294967295 then x + 1 else x

unfoldable pub later : ℕ → ℕ → ℕ
later a b = if leb b (4294967295 - a) then a + b else 4294967295

-- `overflow` is 0 or the number of the first area that overflowed. The sizes are the numbers of entries that the areas have
-- room for. `queue` is in order of insertion, `reasons` are rendered; values are text places, by entity.
pub record Machine : Type 0 where
  pub now : ℕ
  pub «overflow» : ℕ
  pub runs_created : ℕ
  pub sequences : List ℕ
  pub values : List ℕ
  pub versions : List ℕ
  pub queue_size : ℕ
  pub record_size : ℕ
  pub run_size : ℕ
  pub queue : List Item
  pub records : List Record
  pub runs : List Run
  pub reasons : List Text

-- what the areas hold
pub record Content : Type 0 where
  pub queue_size : ℕ
  pub record_size : ℕ
  pub run_size : ℕ
  pub queue : List Item
  pub records : List Record
  pub runs : List Run
  pub reasons : List Text

-- the state with what its arrays hold: `sequences` counts the runs that each automation has made
pub record Entire : Type 0 where
  pub now : ℕ
  pub items : ℕ
  pub queue_start : ℕ
  pub records : ℕ
  pub live_runs : ℕ
  pub reasons : ℕ
  pub runs_created : ℕ
  pub «overflow» : ℕ
  pub sequences : List ℕ
  pub cells : Cells

abbrev pub entire : State → (values versions sequences : List ℕ) → Entire
entire st v n s = record {
  now = st.now;
  items = st.items;
  queue_start = st.queue_start;
  records = st.records;
  live_runs = st.live_runs;
  reasons = st.reasons;
  runs_created = st.runs_created;
  «overflow» = st.«overflow»;
  sequences = s;
  cells = record { values = v; versions = n };
}

-- the machine of a state whose areas hold this
abbrev pub machine : Entire → Content → Machine
machine st k = record {
  now = st.now;
  «overflow» = st.«overflow»;
  runs_created = st.runs_created;
  sequences =
      st.sequences;
  values = st.cells.values;
  versions = st.cells.versions;
  queue_size = k.queue_size;
  record_size =
      k.record_size;
  run_size = k.run_size;
  queue = k.queue;
  records = k.records;
  runs = k.runs;
  reasons = k.reasons;
}

-- ---- a field changed

abbrev pub put_now : ℕ → Machine → Machine
put_now n m = record {
  now = n;
  «overflow» = m.«overflow»;
  runs_created = m.runs_created;
  sequences = m.sequences;
  values = m.values;
  versions = m.versions;
  queue_size = m.queue_size;
  record_size = m.record_size;
  run_size = m.run_size;
  queue = m.queue;
  records = m.records;
  runs = m.runs;
  reasons = m.reasons;
}

abbrev pub put_full : ℕ → Machine → Machine
put_full n m = record {
  now = m.now;
  «overflow» = n;
  runs_created = m.runs_created;
  sequences = m.sequences;
  values =
      m.values;
  versions = m.versions;
  queue_size = m.queue_size;
  record_size = m.record_size;
  run_size = m.run_size;
  queue =
      m.queue;
  records = m.records;
  runs = m.runs;
  reasons = m.reasons;
}

abbrev pub put_counts : (made : ℕ) (sequences : List ℕ) → Machine → Machine
put_counts n l m = record {
  now = m.now;
  «overflow» = m.«overflow»;
  runs_created = n;
  sequences = l;
  values = m.values;
  versions = m.versions;
  queue_size = m.queue_size;
  record_size = m.record_size;
  run_size = m.run_size;
  queue = m.queue;
  records = m.records;
  runs = m.runs;
  reasons = m.reasons;
}

abbrev pub put_cells : Cells → Machine → Machine
put_cells c m = record {
  now = m.now;
  «overflow» = m.«overflow»;
  runs_created = m.runs_created;
  sequences =
      m.sequences;
  values = c.values;
  versions = c.versions;
  queue_size = m.queue_size;
  record_size = m.record_size;
  run_size =
      m.run_size;
  queue = m.queue;
  records = m.records;
  runs = m.runs;
  reasons = m.reasons;
}

abbrev pub put_queue : List Item → Machine → Machine
put_queue l m = record {
  now = m.now;
  «overflow» = m.«overflow»;
  runs_created = m.runs_created;
  sequences =
      m.sequences;
  values = m.values;
  versions = m.versions;
  queue_size = m.queue_size;
  record_size = m.record_size;
  run_size =
      m.run_size;
  queue = l;
  records = m.records;
  runs = m.runs;
  reasons = m.reasons;
}

abbrev pub put_records : List Record → Machine → Machine
put_records l m = record {
  now = m.now;
  «overflow» = m.«overflow»;
  runs_created = m.runs_created;
  sequences =
      m.sequences;
  values = m.values;
  versions = m.versions;
  queue_size = m.queue_size;
  record_size = m.record_size;
  run_size =
      m.run_size;
  queue = m.queue;
  records = l;
  runs = m.runs;
  reasons = m.reasons;
}

abbrev pub put_runs : List Run → Machine → Machine
put_runs l m = record {
  now = m.now;
  «overflow» = m.«overflow»;
  runs_created = m.runs_created;
  sequences =
      m.sequences;
  values = m.values;
  versions = m.versions;
  queue_size = m.queue_size;
  record_size = m.record_size;
  run_size =
      m.run_size;
  queue = m.queue;
  records = m.records;
  runs = l;
  reasons = m.reasons;
}

abbrev pub put_reasons : List Text → Machine → Machine
put_reasons l m = record {
  now = m.now;
  «overflow» = m.«overflow»;
  runs_created = m.runs_created;
  sequences =
      m.sequences;
  values = m.values;
  versions = m.versions;
  queue_size = m.queue_size;
  record_size = m.record_size;
  run_size =
      m.run_size;
  queue = m.queue;
  records = m.records;
  runs = m.runs;
  reasons = l;
}

-- ---- the state's fields changed

abbrev pub with_active : ℕ → State → State
with_active n st = record {
  now = st.now;
  items = st.items;
  queue_start = st.queue_start;
  records = st.records;
  live_runs = n;
  reasons = st.reasons;
  runs_created = st.runs_created;
  «overflow» = st.«overflow»;
}

abbrev pub with_queue : (first items : ℕ) → Entire → Entire
with_queue i n st = record {
  now = st.now;
  items = n;
  queue_start = i;
  records = st.records;
  live_runs =
      st.live_runs;
  reasons = st.reasons;
  runs_created = st.runs_created;
  «overflow» = st.«overflow»;
  sequences =
      st.sequences;
  cells = st.cells;
}

abbrev pub with_records : ℕ → Entire → Entire
with_records n st = record {
  now = st.now;
  items = st.items;
  queue_start = st.queue_start;
  records = n;
  live_runs =
      st.live_runs;
  reasons = st.reasons;
  runs_created = st.runs_created;
  «overflow» = st.«overflow»;
  sequences =
      st.sequences;
  cells = st.cells;
}

abbrev pub with_reasons : ℕ → Entire → Entire
with_reasons n st = record {
  now = st.now;
  items = st.items;
  queue_start = st.queue_start;
  records = st.records;
  live_runs = st.live_runs;
  reasons = n;
  runs_created = st.runs_created;
  «overflow» = st.«overflow»;
  sequences =
      st.sequences;
  cells = st.cells;
}

abbrev pub with_full : ℕ → Entire → Entire
with_full n st = record {
  now = st.now;
  items = st.items;
  queue_start = st.queue_start;
  records = st.records;
  live_runs = st.live_runs;
  reasons = st.reasons;
  runs_created = st.runs_created;
  «overflow» = n;
  sequences =
      st.sequences;
  cells = st.cells;
}

abbrev pub with_cells : Cells → Entire → Entire
with_cells c st = record {
  now = st.now;
  items = st.items;
  queue_start = st.queue_start;
  records = st.records;
  live_runs = st.live_runs;
  reasons = st.reasons;
  runs_created = st.runs_created;
  «overflow» = st.«overflow»;
  sequences = st.sequences;
  cells = c;
}

abbrev pub with_run : (active made : ℕ) (sequences : List ℕ) → Entire → Entire
with_run n i l st = record {
  now = st.now;
  items = st.items;
  queue_start = st.queue_start;
  records = st.records;
  live_runs = n;
  reasons = st.reasons;
  runs_created = i;
  «overflow» = st.«overflow»;
  sequences = l;
  cells =
      st.cells;
}

abbrev pub stored_m : Cells → (e value : ℕ) → Cells
stored_m c e v = record { values = set c.values e v; versions = c.versions }

abbrev pub raised_m : Cells → (e : ℕ) → Cells
raised_m c e = record { values = c.values; versions = set c.versions e (more (get_or c.versions e 0)) }
