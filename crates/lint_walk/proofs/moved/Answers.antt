use mathlib.Core.Path.{sym}
use Rattle.lint_walk.proofs.Laws as laws
use Rattle.lint_walk.proofs.moved.Goals as goal

pub returns : goal.returns
returns c = sym (laws.moved_is _ _)
