use mathlib.Core.Path.{◌∙◌}
use Rattle.lint_walk.proofs.Laws as laws
use Rattle.lint_walk.proofs.source_at.Goals as goal

pub returns : goal.returns
returns c = c.list_end.ensures ∙ laws.source_is _ _ c.actions_at.ensures
