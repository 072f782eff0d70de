-- Writes, over the table x.
use Rattle.std.specs.Prelude.{ℕ, Option, List, ltb, eqb, get_or, if◌then◌else◌}
use Rattle.queue.specs.declared.Work.TheVariants.{Changed, Stale}
use Rattle.records.specs.declared.Source.{Source}
use Rattle.engine_fields.specs.Fields.{name, stale, entity_of}
use Rattle.engine_state.specs.Machine.{Machine, later, put_cells, stored_m, raised_m}
use Rattle.engine_state.specs.Changes.{add_m, log_write_m}
use Rattle.engine_state.specs.declared.Cells.{Cells}
use Rattle.engine_state.specs.declared.Move.{Move}
use Rattle.engine_state.specs.declared.Setting.{Setting}

-- the value is stale a second after its time, if it isn't written again
unfoldable pub expiry_m : List ℕ → (e : ℕ) → Machine → Machine
expiry_m x e m = if eqb (stale x e) 4294967295 then m
    else add_m (later (later m.now (stale x e)) 1) (Stale (name x e) (get_or m.versions e 0)) m

unfoldable pub changed_m : Move → Machine → Machine
changed_m v m = if eqb v.from v.to then m else add_m m.now (Changed v.entity v.from v.to) m

abbrev pub cells : Machine → Cells
cells m = record { values = m.values; versions = m.versions }

abbrev pub setting : (entity value kind : ℕ) → Option ℕ → Option Source → Setting
setting e v k u w = record { entity = e; value = v; kind = k; rule = u; source = w }

abbrev pub move : (entity from to : ℕ) → Move
move e f t = record { entity = e; from = f; to = t }

-- the write of the e-th entity, whose value was `old`
unfoldable pub write_m : List ℕ → Setting → (e old : ℕ) → Cells → Machine → Machine
write_m x w e old c m = changed_m (move w.entity old w.value)
    (log_write_m w (move w.entity old w.value) (expiry_m x e (put_cells c m)))

unfoldable pub update_at_m : List ℕ → Setting → (e : ℕ) → Machine → Machine
update_at_m x w e m = if ltb 31 e then m else write_m x w e (get_or m.values e 0) (raised_m (stored_m (cells m) e w.value) e)
    m

unfoldable pub update_m : List ℕ → Setting → Machine → Machine
update_m x w m = update_at_m x w (entity_of x w.entity) m
