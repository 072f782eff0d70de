use native.Mathlib.Omega.{arith}
use Rattle.reduce.proofs.Reduction as reduction
use Rattle.reduce.proofs.attempt.Goals as goal

pub tried-requires : goal.tried-requires
tried-requires c = c.requires

pub returns : goal.returns
returns c =
    reduction.attempted _ _ c.requires (λ k. omega (arith, c.shared_slice_known-1.given k)) c.without-w.ensures
    c.check_case-c.ensures c.violates-stays.ensures c.tried.ensures
