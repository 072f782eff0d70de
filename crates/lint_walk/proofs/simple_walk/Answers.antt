use mathlib.Core.Path.{◌∙◌}
use Rattle.lint_walk.proofs.Laws as laws
use Rattle.lint_walk.proofs.simple_walk.Goals as goal

pub returns : goal.returns
returns c =
    laws.moved_of _ _ _ c.moved.ensures ∙ laws.simple_is _ _ _ _ _ _ c.kind_at-kind.ensures c.past.ensures
    c.simple_end-end.ensures c.noted.ensures
