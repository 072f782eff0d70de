use native.Mathlib.Omega.{arith}
use Rattle.reduce_entry.proofs.Outcome as outcome
use Rattle.reduce_entry.proofs.reduction.Goals as goal

pub returns-then-r-ne0 : goal.returns-then-r-ne0
returns-then-r-ne0 c =
    outcome.reduction_full c.args.queue.now c.args.records.now c.args.runs.now
    c.reduce_events-r.ensures c.if-r-ne0.true c.refused.ensures c.clear_three.ensures
    c.reduce_events-r.auto.queue c.reduce_events-r.auto.records
    c.reduce_events-r.auto.runs _

pub last_check-requires : goal.last_check-requires
last_check-requires c = outcome.ready c.reduce_events-r.ensures c.requires c.if-r-ne0.false

pub returns : goal.returns
returns c =
    outcome.reduction_done c.args.queue.now c.args.records.now c.args.runs.now
    c.reduce_events-r.ensures (λ k. omega (arith, c.shared_slice_known-1.given k)) c.if-r-ne0.false
    c.last_check.ensures (
      c.reduce_events-r.auto.queue,
      (c.reduce_events-r.auto.records, c.reduce_events-r.auto.runs),
    )
