-- The window at a position of the file f, with the table x.
use Rattle.std.specs.Prelude.{ℕ, ◌+◌, Bool, List, get_or}
use Rattle.layout.specs.Table.{start_second_word, start_weekday_word}
use Rattle.model_spec.specs.Model.{Moment}
use Rattle.engine_spec.specs.Truth.{moment_after, is_open}
use Rattle.engine_fields.specs.Fields.{four}

-- the moment of second 0
abbrev pub start_m : List ℕ → Moment
start_m x = record { weekday = get_or x start_weekday_word 0; second = get_or x start_second_word 0 }

-- its days, start and end stand behind its kind
unfoldable pub open_m : (f x : List ℕ) → (second at : ℕ) → Bool
open_m f x n at = is_open (get_or f (at + 1) 0) (four f (at + 2)) (four f (at + 6)) (moment_after (start_m x) n)
