use native.Mathlib.Omega.{arith}
use Rattle.reduce_entry.proofs.Entry as entry
use Rattle.reduce_entry.proofs.run.Goals as goal

pub overflow_add-file : goal.overflow_add-file
overflow_add-file c = omega (arith, entry.small c.requires)

pub returns-then-output-file : goal.returns-then-output-file
returns-then-output-file c = entry.run_short _ _ c.refused.ensures _ _ c.if-output-file.true

pub first_check-requires : goal.first_check-requires
first_check-requires c =
    entry.given (λ k. omega (arith, c.shared_slice_known-1.given k)) c.prepared-b.ensures c.events_of-events.ensures
    c.at_most-n.ensures.0 c.if-output-file.false c.requires

pub returns : goal.returns
returns c =
    entry.run_is (λ k. omega (arith, c.shared_slice_known-1.given k)) c.prepared-b.ensures c.events_of-events.ensures
    c.at_most-n.ensures.0 c.if-output-file.false c.first_check.ensures
