use mathlib.Core.Path.{refl}
use Prim.Native.Nat.{◌-◌}
use native.Mathlib.Omega.{arith}
use Rattle.arguments.proofs.Laws as laws
use Rattle.arguments.proofs.number.Goals as goal

pub loop-x-init : goal.loop-x-init
loop-x-init c = (refl, omega arith)

pub loop-x-preserved : goal.loop-x-preserved
loop-x-preserved c = (
  laws.turn _ _ _ _ c.args.t.now c.loop-x.invariant.0 c.loop-x-test.true c.next-k.ensures.0,
  c.next-k.ensures.1,
)

pub returns : goal.returns
returns c = (laws.end _ _ _ _ c.loop-x.invariant.0 c.loop-x-test.false, c.loop-x.invariant.1)
