use mathlib.Core.Path.{◌∙◌}
use Rattle.bounds.proofs.Laws as laws
use Rattle.bounds.proofs.place_of.Goals as goal

pub returns : goal.returns
returns c = c.min.ensures ∙ laws.min_is _ _
