use native.Mathlib.Omega.{arith}
use Rattle.live_runs.proofs.Laws as laws
use Rattle.live_runs.proofs.lower.Goals as goal

pub returns-then-i-gt31 : goal.returns-then-i-gt31
returns-then-i-gt31 c = laws.lower_past _ _ (omega arith)

pub returns : goal.returns
returns c = laws.lower_is _ _ _ (omega arith) c.less.ensures
