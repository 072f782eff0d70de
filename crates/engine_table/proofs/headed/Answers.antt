use mathlib.Core.Path.{◌∙◌}
use native.Mathlib.Omega.{arith}
use Prim.Native.Nat.{ℕ}
use lib.ListN.{length-replicate, length-set}
use Rattle.engine_table.proofs.Laws as laws
use Rattle.engine_table.specs.Table.{head_word}
use Rattle.engine_table.proofs.headed.Goals as goal

pub loop-k-init : goal.loop-k-init
loop-k-init c = (λ j h. absurd (omega arith), (length-replicate {A = ℕ} 336 0, omega arith))

pub loop-k-preserved : goal.loop-k-preserved
loop-k-preserved c = (
  laws.one_more (head_word _ _) c.loop-k.words c.loop-k.k c.head_word.result
      c.loop-k.invariant.0 (omega (arith, c.loop-k.invariant.1.0, c.loop-k-test.true))
      c.head_word.ensures,
  (
    length-set c.loop-k.words c.loop-k.k c.head_word.result
        ∙ c.loop-k.invariant.1.0,
    omega arith,
  ),
)

pub returns : goal.returns
returns c =
    record {
      long = c.loop-k.invariant.1.0;
      words =
          λ k h. c.loop-k.invariant.0 k (omega (arith, c.loop-k-test.false));
    }
