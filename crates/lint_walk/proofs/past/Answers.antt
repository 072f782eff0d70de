use mathlib.Core.Path.{sym}
use native.Mathlib.Omega.{arith}
use Rattle.lint_walk.proofs.Laws as laws
use Rattle.lint_walk.proofs.past.Goals as goal

pub returns-then-s-size : goal.returns-then-s-size
returns-then-s-size c = sym (laws.past_out _ _ _ (omega arith))

pub returns-then-s-size-2 : goal.returns-then-s-size-2
returns-then-s-size-2 c = sym (laws.past_out _ _ _ (omega arith))

pub returns : goal.returns
returns c = sym (laws.past_in _ _ _ (omega arith))
