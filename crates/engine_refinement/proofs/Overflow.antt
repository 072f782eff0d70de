-- An overflow stays: every primitive change of the engine keeps it, so each step does.
use Prim.Native.Nat.{ℕ}
use mathlib.Core.Path.{◌≡◌, ap}
use mathlib.Core.Option.{some}
use lib.ListN.{length}
use Rattle.engine_spec.specs.Records.{Engine}
use Rattle.engine_spec.specs.Changes.{noted, with_cells, add, append, with_runs, add_run, uncertain, with_queue}
use Rattle.engine_spec.proofs.Closed.{Closed}

pub overflow_stays : (n : ℕ) → Closed (λ (e : Engine). e.overflow ≡ some n)
unfolding with_cells add append with_runs add_run uncertain with_queue noted
overflow_stays n = record {
  on_cells = λ l e h. h;
  on_add = λ i e h. ap (noted 41 (length e.queue) e.areas.queue) h;
  on_append = λ t e h. ap (noted 42 (length e.trace) e.areas.records) h;
  on_runs = λ l e h. h;
  on_run = λ r e h. ap (noted 43 (length e.runs) e.areas.runs) h;
  on_uncertain = λ t e h. h;
  on_queue = λ l e h. h;
}
