use native.Mathlib.Omega.{arith}
use mathlib.Core.Path.{refl}
use Rattle.reduce.specs.Promises.{refusal, spent}
use Rattle.reduce.proofs.Laws as laws
use Rattle.reduce.proofs.goes_on.Goals as goal

pub returns-then-r-ne0 : goal.returns-then-r-ne0
returns-then-r-ne0 c = laws.stops _ (refusal c.if-r-ne0.true)

pub returns-then-r-gt199 : goal.returns-then-r-gt199
returns-then-r-gt199 c = laws.stops _ (spent (omega (arith, c.if-r-gt199.true)))

pub returns : goal.returns
returns c = laws.goes _ c.if-r-ne0.false (omega (arith, c.if-r-gt199.false)) refl
