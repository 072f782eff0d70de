use mathlib.Core.Path.{sym, ap, ◌∙◌}
use Rattle.c_encoding.specs.Numbers.{validity_number}
use Rattle.fukhtsege.proofs.fukhtsege_validate.Goals as goal

pub returns-in-Accepted : goal.returns-in-Accepted
returns-in-Accepted c = ap validity_number (sym c.in-Accepted.is ∙ c.validate-v.ensures)

pub returns-in-Refused : goal.returns-in-Refused
returns-in-Refused c = ap validity_number (sym c.in-Refused.is ∙ c.validate-v.ensures)
