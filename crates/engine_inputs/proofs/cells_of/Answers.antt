use mathlib.Core.Path.{refl, ◌∙◌}
use native.Mathlib.Omega.{arith}
use Prim.Native.Nat.{ℕ, ◌-◌}
use lib.ListN.{length-replicate, length-set}
use Rattle.engine_table.proofs.Laws as table
use Rattle.engine_inputs.specs.Inputs.{value_from}
use Rattle.engine_inputs.proofs.cells_of.Goals as goal

pub loop-e-init : goal.loop-e-init
loop-e-init c = (λ j h. absurd (omega arith), (length-replicate {A = ℕ} 32 0, omega arith))

pub loop-e-preserved : goal.loop-e-preserved
loop-e-preserved c = (
  table.one_more (value_from _ _ _) c.loop-e.values c.loop-e.e c.value_word.result c.loop-e.invariant.0
      (omega (arith, c.loop-e.invariant.1.0, c.loop-e-test.true)) c.value_word.ensures,
  (length-set c.loop-e.values c.loop-e.e c.value_word.result ∙ c.loop-e.invariant.1.0, omega arith),
)

pub returns : goal.returns
returns c =
    record {
      values = λ j h. c.loop-e.invariant.0 j (omega (arith, c.loop-e-test.false));
      values_long =
          c.loop-e.invariant.1.0;
      versions = refl;
    }
