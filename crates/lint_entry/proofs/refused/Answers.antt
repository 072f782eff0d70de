use mathlib.Core.Path.{refl}
use Rattle.lint_entry.specs.Contract.{no_lint}
use Rattle.lint_entry.proofs.refused.Goals as goal

pub returns : goal.returns
unfolding no_lint
returns c = refl
