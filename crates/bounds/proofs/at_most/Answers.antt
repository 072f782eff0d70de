use mathlib.Core.Path.{◌∙◌}
use native.Mathlib.Omega.{arith}
use Rattle.bounds.proofs.Laws as laws
use Rattle.bounds.proofs.at_most.Goals as goal

pub returns : goal.returns
returns c = (c.min.ensures ∙ laws.min_is _ _, omega arith)
