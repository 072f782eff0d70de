use mathlib.Core.Path.{◌∙◌}
use Rattle.lint_walk.proofs.Laws as laws
use Rattle.lint_walk.proofs.actions_at.Goals as goal

pub returns : goal.returns
returns c = c.predicates_end.ensures ∙ laws.actions_is _ _ _ c.conditions_at.ensures
