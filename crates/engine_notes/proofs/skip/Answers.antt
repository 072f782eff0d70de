use native.Mathlib.Omega.{arith}
use Rattle.engine_notes.proofs.Laws as laws
use Rattle.engine_notes.proofs.skip.Goals as goal

pub returns-then-f-size : goal.returns-then-f-size
returns-then-f-size c = laws.skip_out _ _ _ (omega arith)

pub returns-then-f-size-2 : goal.returns-then-f-size-2
returns-then-f-size-2 c = laws.skip_out _ _ _ (omega arith)

pub returns : goal.returns
returns c = laws.skip_in _ _ _ (omega arith)
