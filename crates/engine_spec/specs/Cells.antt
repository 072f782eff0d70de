-- The entities' present state: Rust's maps `state` and `versions` side by side, a cell for each entity, in name order.
use Rattle.std.specs.Prelude.{ℕ, ◌+◌, Bool, List, [], if◌then◌else◌}
use Rattle.std.proofs.Math.Option.{Option, none, some}
use Rattle.texts.specs.Lists.{find, each, all_lists}
use Rattle.texts.specs.Texts.{Text, eq_t, all_texts}
use Rattle.model_spec.specs.Model.{Entity}

pub record Cell : Type 0 where
  pub name : Text
  pub stale_after : Option ℕ
  pub value : Text
  pub version : ℕ

unfoldable pub is_cell : Text → Cell → Bool
is_cell x c = eq_t c.name x

unfoldable pub cell_of : Text → List Cell → Option Cell
cell_of x = find (is_cell x)

-- an entity's value. A validated model names declared entities only.
unfoldable pub value_of : Text → List Cell → Text
value_of x l = elim (cell_of x l) [ none ↦ [] | some c ↦ c.value ]

-- the cell with another value, if it is x's, and its version raised
unfoldable pub overwrite : Text → Text → (raise : ℕ) → Cell → Cell
overwrite x v k c =
    if is_cell x c
    then record { name = c.name; stale_after = c.stale_after; value = v; version = c.version + k }
    else c

-- x has the value v. A write raises its version by 1, an expiry doesn't.
unfoldable pub put : Text → Text → (raise : ℕ) → List Cell → List Cell
put x v k = each (overwrite x v k)

-- where a simulation starts, unless it is told otherwise
unfoldable pub initial_cells : List Entity → List Cell
initial_cells = each (λ e. record { name = e.name; stale_after = e.stale_after; value = e.initial; version = 0 })

-- opens the file, for proofs by computation
unfoldable pub all_cells : Unit {0}
unfolding all_lists all_texts is_cell cell_of value_of overwrite put initial_cells
all_cells = tt
