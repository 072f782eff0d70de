use Prim.Native.Nat.{ℕ, ◌-◌}
use mathlib.Core.Path.{◌∙◌}
use native.Mathlib.Omega.{arith}
use lib.ListN.{length-replicate, length-set}
use Rattle.engine_table.proofs.Laws as table
use Rattle.search_inputs.specs.Inputs.{input_word}
use Rattle.search_inputs.proofs.alphabet_of.Goals as goal

pub loop-k-init : goal.loop-k-init
loop-k-init c = (λ j h. absurd (omega arith), (length-replicate {A = ℕ} 36 0, omega arith))

pub loop-k-preserved : goal.loop-k-preserved
loop-k-preserved c = (
  table.one_more (input_word _ _) c.loop-k.words c.loop-k.k
      c.input_word.result c.loop-k.invariant.0
      (omega (arith, c.loop-k.invariant.1.0, c.loop-k-test.true)) c.input_word.ensures,
  (
    length-set c.loop-k.words c.loop-k.k c.input_word.result
        ∙ c.loop-k.invariant.1.0,
    omega arith,
  ),
)

pub returns : goal.returns
returns c =
    record {
      count = c.at_most-count.ensures.0;
      long = c.loop-k.invariant.1.0;
      words =
          λ k h. c.loop-k.invariant.0 k (omega (arith, c.loop-k-test.false));
    }
