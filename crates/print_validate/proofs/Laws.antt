-- The two cases of the answer.
use mathlib.Core.Path.{◌≡◌}
use mathlib.Core.List.{List}
use Prim.Native.Nat.{ℕ}
use Rattle.model_validate.specs.declared.Validity.TheVariants.{Accepted, Refused}
use Rattle.model_validate.specs.Contract.{validated}
use Rattle.show.specs.Lines.{accepted_line, refused_line}
use Rattle.print_validate.specs.Answer.{validity_lines, validate_lines}

module _ (f : List ℕ) where
  pub when_accepted : Accepted ≡ validated f → accepted_line ≡ validate_lines f
  unfolding validate_lines validity_lines
  when_accepted e = rw (← e)

  pub when_refused : (n : ℕ) → Refused n ≡ validated f → refused_line n ≡ validate_lines f
  unfolding validate_lines validity_lines
  when_refused n e = rw (← e)
