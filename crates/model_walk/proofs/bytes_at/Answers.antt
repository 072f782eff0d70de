use mathlib.Core.Path.{sym}
use native.Mathlib.Omega.{arith}
use Rattle.model_walk.proofs.Laws as laws
use Rattle.model_walk.proofs.bytes_at.Goals as goal

pub returns-then-s-size : goal.returns-then-s-size
returns-then-s-size c = sym (laws.bytes_out _ _ _ _ (omega arith))

pub returns : goal.returns
returns c = sym (laws.bytes_in _ _ _ _ (omega arith))
