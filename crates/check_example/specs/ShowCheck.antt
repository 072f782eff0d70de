-- The scope's example of the program `showcheck`: whatever `check` returns of the shipped file, as its contract has it, with
-- areas as the program lends them, the lines written of it are the scope's four.
use Rattle.std.specs.Prelude.{◌≡◌, length}
use Rattle.texts.specs.Texts.{Text, text}
use Rattle.engine_spec.specs.Memory.{Lent}
use Rattle.checker_result.specs.declared.CheckResult.{CheckResult}
use Rattle.checker_entry.specs.Contract.{Checks}
use Rattle.check_example.specs.Lampdoor.{lampdoor}
use Rattle.check_example.specs.Printed.{printed}

-- each area that `showcheck` lends has 16,380 words, which is at most 64 KiB
pub record ShowCheckAreas (l : Lent) : Type 0 where
  pub queue : length l.queue ≡ 16380
  pub records : length l.records ≡ 16380
  pub runs : length l.runs ≡ 16380

abbrev pub scope_lines : Text
scope_lines = text "status violation\nsteps 5\nrecords 7\nviolated nodoor 5 4 7:3\n"

-- to be proved
abbrev pub ShowCheck : Type 0
ShowCheck =
    (r : CheckResult) (before after : Lent) → ShowCheckAreas before → Checks lampdoor r before after
    → printed lampdoor r ≡ scope_lines
