-- What the program `showvalidate` prints.
use Rattle.std.specs.Prelude.{ℕ, List}
use Rattle.texts.specs.Texts.{Text}
use Rattle.model_validate.specs.declared.Validity.{Validity}
use Rattle.model_validate.specs.declared.Validity.TheVariants.{Accepted, Refused}
use Rattle.model_validate.specs.Contract.{validated}
use Rattle.show.specs.Lines.{accepted_line, refused_line}

unfoldable pub validity_lines : Validity → Text
validity_lines Accepted = accepted_line
validity_lines (Refused number) = refused_line number

-- the lines for a model file
unfoldable pub validate_lines : (file : List ℕ) → Text
validate_lines file = validity_lines (validated file)
