use Prim.Native.Nat.{ℕ, ◌-◌}
use mathlib.Core.Path.{refl}
use native.Mathlib.Omega.{arith}
use lib.ListN.{length-replicate}
use Rattle.search.proofs.Visits as visits
use Rattle.search_cases.proofs.Laws as laws
use Rattle.search.proofs.deepen.Goals as goal

pub loop-d-init : goal.loop-d-init
loop-d-init c = (refl, (refl, (refl, (refl, (omega arith, visits.depth_start)))))

pub visit-s-requires : goal.visit-s-requires
visit-s-requires c =
    record {
      fitted = laws.fit_any c.requires.1 c.loop-d.invariant.1.1.1.0;
      words = length-replicate {A = ℕ} 20 0;
      events =
          omega (arith, c.loop-d-test.true, c.requires.0);
    }

pub loop-d-preserved : goal.loop-d-preserved
loop-d-preserved c = (
  omega (arith, c.loop-d.invariant.0, c.visit-s.auto.queue),
  (
    omega (arith, c.loop-d.invariant.1.0, c.visit-s.auto.records),
    (
      omega (arith, c.loop-d.invariant.1.1.0, c.visit-s.auto.runs),
      (
        omega (arith, c.loop-d.invariant.1.1.1.0, c.visit-s.auto.w),
        (
          omega (arith, c.loop-d-test.true),
          visits.depth_next c.loop-d.invariant.1.1.1.1.1 c.loop-d.invariant.0
              c.loop-d.invariant.1.0 c.loop-d.invariant.1.1.0 c.visit-s.ensures,
        ),
      ),
    ),
  ),
)

pub returns : goal.returns
returns c =
    visits.depth_end c.args.depth (omega arith) c.loop-d.invariant.1.1.1.1.0
    c.loop-d.invariant.1.1.1.1.1
