use native.Mathlib.Omega.{arith}
use Rattle.model_walk.proofs.Laws as laws
use Rattle.model_walk.proofs.u32_at.Goals as goal

pub returns-then-s-lt4 : goal.returns-then-s-lt4
returns-then-s-lt4 c = laws.says_broken (laws.u32_out _ _ (omega arith))

pub returns : goal.returns
returns c = laws.says_got (laws.u32_in _ _ (omega arith)) (cc)
