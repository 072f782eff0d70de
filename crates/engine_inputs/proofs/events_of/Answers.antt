use mathlib.Core.Path.{◌∙◌}
use native.Mathlib.Omega.{arith}
use Prim.Native.Nat.{ℕ, ◌-◌}
use lib.ListN.{length-replicate, length-set}
use Rattle.layout.specs.Sizes.{event_word_count}
use Rattle.engine_table.proofs.Laws as table
use Rattle.engine_inputs.specs.Inputs.{event_from}
use Rattle.engine_inputs.proofs.Laws as laws
use Rattle.engine_inputs.proofs.events_of.Goals as goal

pub loop-k-init : goal.loop-k-init
loop-k-init c = (
  λ j h. absurd (omega arith),
  (
    length-replicate {A = ℕ} event_word_count 0,
    (omega arith, λ j h. laws.zeros event_word_count j),
  ),
)

pub overflow_mul-k-end : goal.overflow_mul-k-end
overflow_mul-k-end c = omega (arith, c.at_most-n.ensures.1)

pub event_word-requires : goal.event_word-requires
event_word-requires c = omega (arith, c.at_most-n.ensures.1, c.loop-k-test.true)

pub bounds-words-k : goal.bounds-words-k
bounds-words-k c = omega (arith, c.at_most-n.ensures.1, c.loop-k-test.true, c.loop-k.invariant.1.0)

pub loop-k-preserved : goal.loop-k-preserved
loop-k-preserved c = (
  table.one_more (event_from _ _) c.loop-k.words c.loop-k.k c.event_word.result c.loop-k.invariant.0
      (omega (arith, c.loop-k.invariant.1.0, c.loop-k-test.true, c.at_most-n.ensures.1))
      c.event_word.ensures,
  (
    length-set c.loop-k.words c.loop-k.k c.event_word.result ∙ c.loop-k.invariant.1.0,
    (
      omega (arith, c.loop-k-test.true),
      laws.zeros_behind c.loop-k.words c.loop-k.k c.event_word.result c.loop-k.invariant.1.1.1,
    ),
  ),
)

pub returns : goal.returns
returns c =
    record {
      long = c.loop-k.invariant.1.0;
      words =
          λ k h. c.loop-k.invariant.0 k (omega (arith, c.loop-k-test.false, c.at_most-n.ensures.0, h));
      behind = λ k h. c.loop-k.invariant.1.1.1 k
          (omega (arith, c.loop-k.invariant.1.1.0, c.at_most-n.ensures.0, h));
    }
