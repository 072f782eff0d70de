use mathlib.Core.Path.{◌∙◌}
use native.Mathlib.Omega.{arith}
use lib.ListN.{length-set}
use Rattle.engine_table.proofs.Laws as laws
use Rattle.engine_table.proofs.table_of.Goals as goal

pub loop-k-init : goal.loop-k-init
loop-k-init c = (λ j h. laws.so_low _ _ _ _ _ j h, (c.headed-words.ensures.long, (omega arith, omega arith)))

pub overflow_mul-k-end : goal.overflow_mul-k-end
overflow_mul-k-end c = omega (arith, c.at_most-n.ensures.1)

pub overflow_add-k-end : goal.overflow_add-k-end
overflow_add-k-end c = omega (arith, c.at_most-n.ensures.1)

pub part_word-requires : goal.part_word-requires
part_word-requires c = (c.loop-k.invariant.1.1.0, omega (arith, c.at_most-n.ensures.1, c.loop-k-test.true))

pub bounds-words-k : goal.bounds-words-k
bounds-words-k c = omega (arith, c.at_most-n.ensures.1, c.loop-k-test.true, c.loop-k.invariant.1.0)

pub loop-k-preserved : goal.loop-k-preserved
loop-k-preserved c = (
  laws.one_more (laws.so_far _ _ _ _ _) c.loop-k.words c.loop-k.k c.part_word.result c.loop-k.invariant.0
      (omega (arith, c.loop-k.invariant.1.0, c.loop-k-test.true, c.at_most-n.ensures.1))
      (c.part_word.ensures ∙ laws.so_high _ _ _ _ _ _ c.loop-k.invariant.1.1.0),
  (
    length-set c.loop-k.words c.loop-k.k c.part_word.result ∙ c.loop-k.invariant.1.0,
    (omega (arith, c.loop-k.invariant.1.1.0), omega (arith, c.loop-k-test.true)),
  ),
)

pub returns : goal.returns
returns c =
    record {
      words = λ k h. c.loop-k.invariant.0 k (omega (arith, c.loop-k-test.false, c.at_most-n.ensures.0, h))
          ∙ laws.so_table _ _ _ c.headed-words.ensures k;
    }
