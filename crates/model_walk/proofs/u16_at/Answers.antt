use native.Mathlib.Omega.{arith}
use Rattle.model_walk.proofs.Laws as laws
use Rattle.model_walk.proofs.u16_at.Goals as goal

pub returns-then-s-lt2 : goal.returns-then-s-lt2
returns-then-s-lt2 c = laws.says_broken (laws.u16_out _ _ (omega arith))

pub returns : goal.returns
returns c = laws.says_got (laws.u16_in _ _ (omega arith)) (cc)
