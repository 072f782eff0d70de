use native.Mathlib.Omega.{arith}
use Rattle.engine_window.proofs.Laws as laws
use Rattle.engine_window.proofs.weekday_after.Goals as goal

pub returns : goal.returns
returns c = (laws.weekday_is _ _ _, omega arith)
