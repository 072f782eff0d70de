use mathlib.Core.Path.{◌≡◌, refl, subst}
use Prim.Native.Nat.{ℕ, ◌-◌}
use native.Mathlib.Omega.{arith}
use Rattle.engine_summary.specs.Summaries.{Firsts}
use Rattle.engine_summary.proofs.Laws as laws
use Rattle.engine_summary.proofs.first_values.Goals as goal

pub loop-e-init : goal.loop-e-init
loop-e-init c = (laws.firsts_none _, (omega arith, c.requires))

pub bounds-values-e : goal.bounds-values-e
bounds-values-e c = omega (arith, c.loop-e-test.true, c.loop-e.invariant.1.1)

pub bounds-places-e : goal.bounds-places-e
bounds-places-e c = omega (arith, c.loop-e-test.true, c.loop-e.invariant.1.1)

pub loop-e-preserved : goal.loop-e-preserved
loop-e-preserved c = (
  laws.firsts_more _ c.loop-e.places c.loop-e.e _ c.loop-e.invariant.0
      (omega (arith, c.loop-e-test.true, c.loop-e.invariant.1.1)) refl,
  (omega arith, c.loop-e.invariant.1.1),
)

pub returns : goal.returns
returns c =
    let z : c.loop-e.e ≡ c.args.n =
    omega (arith, c.loop-e-test.false, c.loop-e.invariant.1.0) in
    subst (λ (k : ℕ). Firsts c.args.values k c.loop-e.places) z c.loop-e.invariant.0
