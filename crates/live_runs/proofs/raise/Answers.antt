use native.Mathlib.Omega.{arith}
use Rattle.bounds.proofs.Laws as bounds
use Rattle.live_runs.proofs.Laws as laws
use Rattle.live_runs.proofs.raise.Goals as goal

pub returns-then-i-gt31 : goal.returns-then-i-gt31
returns-then-i-gt31 c = laws.raise_past _ _ _ (omega arith)

pub returns : goal.returns
returns c = laws.raise_is _ _ _ _ (omega arith) (bounds.smaller c.min.ensures).is
