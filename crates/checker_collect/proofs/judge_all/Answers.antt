use Prim.Native.Nat.{◌-◌}
use native.Mathlib.Omega.{arith}
use Rattle.checker_collect.proofs.Laws as laws
use Rattle.checker_collect.proofs.judge_all.Goals as goal

pub loop-k-init : goal.loop-k-init
loop-k-init c = (omega arith, laws.gathers_none _ _ _ _)

pub bounds-starts-k : goal.bounds-starts-k
bounds-starts-k c = omega (arith, c.at_most-many.ensures.1, c.loop-k-test.true)

pub judge_one-t-requires : goal.judge_one-t-requires
judge_one-t-requires c = laws.judge_room c.requires c.loop-k.invariant.1 (omega (arith, c.loop-k-test.true, c.at_most-many.ensures.1))

pub loop-k-preserved : goal.loop-k-preserved
loop-k-preserved c = (omega arith, laws.gathers_more _ _ _ _ _ c.loop-k.invariant.1 c.judge_one-t.ensures)

pub shape_of-v : goal.shape_of-v
shape_of-v c = c.loop-k.invariant.1.long_v

pub shape_of-u : goal.shape_of-u
shape_of-u c = c.loop-k.invariant.1.long_u

pub shape_of-w : goal.shape_of-w
shape_of-w c = c.loop-k.invariant.1.long_w

pub returns : goal.returns
returns c =
    laws.gathers_all _ _ _ _ _ c.at_most-many.ensures
    (omega (arith, c.loop-k-test.false, c.loop-k.invariant.0)) c.loop-k.invariant.1
