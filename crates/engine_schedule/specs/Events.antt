-- What stands in the queue before the loop.
use Rattle.std.specs.Prelude.{ℕ, zero, suc, ◌+◌, ◌-◌, ◌*◌, List, eqb, get_or, if◌then◌else◌}
use Rattle.records.specs.Kinds.{initial_kind}
use Rattle.queue.specs.declared.Work.{Work}
use Rattle.queue.specs.declared.Work.TheVariants.{Set, Restart, Reload}
use Rattle.engine_fields.specs.Fields.{entities}
use Rattle.engine_state.specs.Machine.{Machine}
use Rattle.engine_state.specs.Changes.{add_m, log_plain_m}
use Rattle.engine_update.specs.Update.{expiry_m}

unfoldable pub event_m : (kind entity value : ℕ) → Work
event_m k e v = if eqb k 0 then Set e v else if eqb k 1 then Restart else Reload

-- events of four words: a second, a kind, an entity and a value
unfoldable pub add_event_m : List ℕ → (i : ℕ) → Machine → Machine
add_event_m l i m = add_m (get_or l (i * 4) 0) (event_m (get_or l (i * 4 + 1) 0) (get_or l (i * 4 + 2) 0) (get_or l (i * 4 + 3) 0)) m

unfoldable pub add_events_m : List ℕ → (n : ℕ) → Machine → Machine
add_events_m l zero m = m
add_events_m l (suc i) m = add_event_m l i (add_events_m l i m)

unfoldable pub expiries_m : List ℕ → (n : ℕ) → Machine → Machine
expiries_m x zero m = m
expiries_m x (suc e) m = expiry_m x e (expiries_m x e m)

unfoldable pub add_expiries_m : List ℕ → Machine → Machine
add_expiries_m x m = expiries_m x (entities x) m

unfoldable pub begun_m : (x events : List ℕ) → (count : ℕ) → Machine → Machine
begun_m x l n m = add_expiries_m x (add_events_m l n (log_plain_m initial_kind m))
