-- What the simulations of one model share, from the file and its index.
use Rattle.std.specs.Prelude.{ℕ, List}
use Rattle.model_index.specs.declared.Index.{Index}
use Rattle.reasons.specs.Lists.{Holds}
use Rattle.engine_state.specs.declared.Cells.{Cells}
use Rattle.engine_unsupported.specs.Listing.{unsupported_m}
use Rattle.engine_table.specs.Table.{TableOf}
use Rattle.engine_inputs.specs.Inputs.{CellsOf}

-- the table, the values at the start, and the reasons of the notes
pub record Prepared : Type 0 where
  pub table : List ℕ
  pub cells : Cells
  pub count : ℕ
  pub reasons : List ℕ

abbrev pub prepared_of : (table : List ℕ) → Cells → (count : ℕ) → (reasons : List ℕ) → Prepared
prepared_of x c n w = record { table = x; cells = c; count = n; reasons = w }

pub record PreparedFrom (f : List ℕ) (i : Index) (g : Prepared) : Type 0 where
  pub table : TableOf f i g.table
  pub cells : CellsOf f i g.cells
  pub reasons : Holds f (unsupported_m f g.table) g.count g.reasons
