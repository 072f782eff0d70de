-- The ways in which the engine changes: one for each of its parts. All that a step does is made of them.
use Rattle.std.specs.Prelude.{ℕ, List, [], ◌∷◌, ◌++◌, leb, length, if◌then◌else◌}
use Rattle.std.proofs.Math.Option.{Option, none, some}
use Rattle.texts.specs.Lists.{through, all_lists}
use Rattle.texts.specs.Texts.{Text, mem_t, all_texts}
use Rattle.engine_spec.specs.Cells.{Cell}
use Rattle.engine_spec.specs.Records.{Run, Item, Trace, Engine}

-- Rust's `if let Some(a) = o { .. }`
unfoldable pub if_some : {A : Type 0} → (A → Engine → Engine) → Option A → Engine → Engine
if_some f none e = e
if_some f (some a) e = f a e

-- the note after an insertion into an area that held `used` entries: the first that had no place stays
unfoldable pub noted : (number used size : ℕ) → Option ℕ → Option ℕ
noted n used size none = if leb size used then some n else none
noted n used size (some m) = some m

unfoldable pub with_cells : List Cell → Engine → Engine
with_cells l e = record {
  cells = l;
  queue = e.queue;
  runs = e.runs;
  made = e.made;
  trace = e.trace;
  unknown = e.unknown;
  overflow = e.overflow;
  areas = e.areas;
  start = e.start;
}

unfoldable pub add : Item → Engine → Engine
add i e = record {
  cells = e.cells;
  queue = e.queue ++ i ∷ [];
  runs = e.runs;
  made = e.made;
  trace = e.trace;
  unknown = e.unknown;
  overflow = noted 41 (length e.queue) e.areas.queue e.overflow;
  areas = e.areas;
  start = e.start;
}

-- Rust's `record`
unfoldable pub append : Trace → Engine → Engine
append t e = record {
  cells = e.cells;
  queue = e.queue;
  runs = e.runs;
  made = e.made;
  trace = e.trace ++ t ∷ [];
  unknown = e.unknown;
  overflow = noted 42 (length e.trace) e.areas.records e.overflow;
  areas = e.areas;
  start = e.start;
}

unfoldable pub with_runs : List Run → Engine → Engine
with_runs l e = record {
  cells = e.cells;
  queue = e.queue;
  runs = l;
  made = e.made;
  trace = e.trace;
  unknown = e.unknown;
  overflow = e.overflow;
  areas = e.areas;
  start = e.start;
}

unfoldable pub add_run : Run → Engine → Engine
add_run r e = record {
  cells = e.cells;
  queue = e.queue;
  runs = e.runs ++ r ∷ [];
  made = e.made ++ r.key.rule ∷ [];
  trace = e.trace;
  unknown = e.unknown;
  overflow = noted 43 (length e.runs) e.areas.runs e.overflow;
  areas = e.areas;
  start = e.start;
}

unfoldable pub uncertain : Text → Engine → Engine
uncertain t e = record {
  cells = e.cells;
  queue = e.queue;
  runs = e.runs;
  made = e.made;
  trace = e.trace;
  unknown = if mem_t t e.unknown then e.unknown else e.unknown ++ t ∷ [];
  overflow = e.overflow;
  areas = e.areas;
  start = e.start;
}

-- the queue without the item that the loop takes out
unfoldable pub with_queue : List Item → Engine → Engine
with_queue l e = record {
  cells = e.cells;
  queue = l;
  runs = e.runs;
  made = e.made;
  trace = e.trace;
  unknown = e.unknown;
  overflow = e.overflow;
  areas = e.areas;
  start = e.start;
}

unfoldable pub adds : List Item → Engine → Engine
adds = through add

-- opens the file, for proofs by computation
unfoldable pub all_changes : Unit {0}
unfolding all_lists all_texts if_some noted with_cells add append with_runs add_run uncertain with_queue adds
all_changes = tt
