use mathlib.Core.Path.{sym, ◌∙◌}
use Rattle.lint_walk.proofs.Laws as laws
use Rattle.lint_walk.proofs.triggers_at.Goals as goal

pub returns : goal.returns
returns c = c.past.ensures ∙ sym (laws.triggers_is _ _)
