use Rattle.lint_walk.proofs.Laws as laws
use Rattle.lint_walk.proofs.list_end.Goals as goal

pub returns : goal.returns
returns c = laws.list_end_is _ _ _ c.list_walk.ensures
