use mathlib.Core.Path.{ap, ◌∙◌}
use Rattle.std.specs.Ordering.{is_eq}
use Rattle.texts.proofs.Ordering as ordering
use Rattle.reasons.proofs.equal.Goals as goal

pub returns : goal.returns
returns c = c.is_eq.ensures ∙ ap is_eq c.compare.ensures ∙ ordering.equal_is _ _
