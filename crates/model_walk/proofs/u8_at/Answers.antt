use native.Mathlib.Omega.{arith}
use Rattle.model_walk.proofs.Laws as laws
use Rattle.model_walk.proofs.u8_at.Goals as goal

pub returns-then-at-s : goal.returns-then-at-s
returns-then-at-s c = laws.says_got (laws.u8_in _ _ (omega arith)) (cc)

pub returns-else-at-s : goal.returns-else-at-s
returns-else-at-s c = laws.says_broken (laws.u8_out _ _ (omega arith))
