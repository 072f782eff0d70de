use mathlib.Core.Path.{refl}
use Rattle.search_inputs.specs.Inputs.{placing}
use borrow.Author.Rules.{rules}
use Rattle.search_inputs.proofs.place.Goals as goal

pub returns : goal.returns
unfolding placing
returns c = record { count = refl; words = c.put.ensures; long = search rules }
