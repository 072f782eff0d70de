use mathlib.Core.Path.{◌∙◌}
use Rattle.lint_walk.proofs.Laws as laws
use Rattle.lint_walk.proofs.predicate_end.Goals as goal

pub returns : goal.returns
returns c =
    c.past.ensures
    ∙ laws.predicate_is _ _ c.predicate_size.ensures c.byte_at-kind.ensures
