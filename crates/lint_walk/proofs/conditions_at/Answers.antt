use mathlib.Core.Path.{◌∙◌}
use Rattle.lint_walk.proofs.Laws as laws
use Rattle.lint_walk.proofs.conditions_at.Goals as goal

pub returns : goal.returns
returns c =
    c.past-2.ensures ∙ laws.conditions_is _ _ _ _ _ c.triggers_at-p.ensures c.place_at-count.ensures
    c.past.ensures
