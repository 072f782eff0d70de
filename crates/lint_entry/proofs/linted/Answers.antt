use Rattle.lint_entry.proofs.Laws as laws
use Rattle.lint_entry.proofs.Refines as core
use native.Mathlib.Omega.{arith}
use Rattle.lint_entry.proofs.linted.Goals as goal

pub returns-then-out-ne0 : goal.returns-then-out-ne0
returns-then-out-ne0 c =
    λ m acc o.
    core.too_many _ _ (λ k. omega (arith, c.shared_slice_known-1.given k)) _ _ _ _ _ c.inserted-l.ensures m acc
    o c.if-out-ne0.true _ c.refused.ensures _ _ c.clear.ensures

pub told-requires : goal.told-requires
told-requires c = (c.requires, laws.found_few _ _ _ _ _ _ c.inserted-l.ensures c.requires)

pub returns : goal.returns
returns c =
    λ m acc o.
    core.complete _ _ (λ k. omega (arith, c.shared_slice_known-1.given k)) _ _ _ _ _ c.inserted-l.ensures m acc
    o c.if-out-ne0.false _ c.told.ensures
