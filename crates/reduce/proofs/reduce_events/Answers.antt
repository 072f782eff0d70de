use Prim.Native.Nat.{◌-◌}
use native.Mathlib.Omega.{arith}
use Rattle.reduce.proofs.Reduction as reduction
use Rattle.reduce.proofs.reduce_events.Goals as goal

pub loop-more-init : goal.loop-more-init
loop-more-init c =
    reduction.loop_start c.requires
    c.goes_on-more.ensures

pub attempt-r-requires : goal.attempt-r-requires
attempt-r-requires c = reduction.loop_open c.loop-more.invariant c.loop-more-test.true

pub loop-more-smaller : goal.loop-more-smaller
loop-more-smaller c =
    omega (
      arith,
      c.attempt-r.ensures.attempts,
      (c.loop-more.invariant.goes.more
          c.loop-more-test.true).attempts,
    )

pub loop-more-preserved : goal.loop-more-preserved
loop-more-preserved c =
    reduction.loop_step c.loop-more.invariant c.loop-more-test.true c.attempt-r.ensures c.goes_on-more-in-loop-more.ensures
    c.attempt-r.auto.queue c.attempt-r.auto.records
    c.attempt-r.auto.runs

pub shape_of-queue : goal.shape_of-queue
shape_of-queue c = omega (arith, c.loop-more.invariant.queue)

pub shape_of-records : goal.shape_of-records
shape_of-records c = omega (arith, c.loop-more.invariant.records)

pub shape_of-runs : goal.shape_of-runs
shape_of-runs c = omega (arith, c.loop-more.invariant.runs)

pub returns : goal.returns
returns c = reduction.loop_end c.loop-more.invariant c.loop-more-test.false
