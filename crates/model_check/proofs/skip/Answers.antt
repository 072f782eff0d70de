use mathlib.Core.Path.{sym}
use native.Mathlib.Omega.{arith}
use Rattle.model_check.proofs.Laws as laws
use Rattle.model_check.proofs.skip.Goals as goal

pub returns-then-s-size : goal.returns-then-s-size
returns-then-s-size c = sym (laws.skip_out _ _ _ _ (omega arith))

pub returns-then-s-size-2 : goal.returns-then-s-size-2
returns-then-s-size-2 c = sym (laws.skip_out _ _ _ _ (omega arith))

pub returns : goal.returns
returns c = sym (laws.skip_in _ _ _ _ (omega arith))
