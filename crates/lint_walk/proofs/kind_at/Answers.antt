use mathlib.Core.Path.{◌∙◌}
use Rattle.lint_walk.proofs.Laws as laws
use Rattle.lint_walk.proofs.kind_at.Goals as goal

pub returns : goal.returns
returns c = c.byte_at.ensures ∙ laws.kind_is _ _ _ c.past.ensures
