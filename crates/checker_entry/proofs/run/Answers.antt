use native.Mathlib.Omega.{arith}
use Rattle.checker_entry.proofs.Entry as entry
use Rattle.checker_entry.proofs.run.Goals as goal

pub returns : goal.returns
returns c =
    entry.run_is _ _ (λ k. omega (arith, c.shared_slice_known-1.given k)) _ c.prepared-b.ensures
    c.events_of-v.ensures c.at_most-n.ensures.0 c.check_settled.ensures
