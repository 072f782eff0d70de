use mathlib.Core.Path.{◌∙◌}
use Rattle.lint_walk.proofs.Laws as laws
use Rattle.lint_walk.proofs.entered.Goals as goal

pub returns : goal.returns
returns c =
    laws.moved_of _ _ _ c.moved.ensures ∙ laws.entered_is _ _ _ _ c.noted.ensures
    c.past.ensures
