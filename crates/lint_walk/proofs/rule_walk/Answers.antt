use mathlib.Core.Path.{◌∙◌}
use Rattle.lint_walk.proofs.Laws as laws
use Rattle.lint_walk.proofs.rule_walk.Goals as goal

pub returns : goal.returns
returns c = c.list_walk.ensures ∙ laws.walk_is _ _ c.requires c.actions_at.ensures
