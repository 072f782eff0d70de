use Prim.Native.Nat.{◌-◌}
use Rattle.reasons.proofs.Digits as digits
use native.Mathlib.Omega.{arith}
use Rattle.reasons.proofs.digit_count.Goals as goal

pub loop-x-init : goal.loop-x-init
loop-x-init c = (omega arith, omega arith)

pub overflow_add-c : goal.overflow_add-c
overflow_add-c c = omega (arith, digits.at_most c.args.n)

pub loop-x-preserved : goal.loop-x-preserved
loop-x-preserved c = (omega (arith, digits.length_step c.loop-x.x c.loop-x-test.true (omega arith)), omega arith)

pub returns : goal.returns
returns c = (
  omega (arith, digits.length_small c.loop-x.x c.loop-x-test.false),
  omega (
    arith,
    digits.length_small c.loop-x.x c.loop-x-test.false,
    digits.at_most c.args.n,
  ),
)
