use borrow.Author.Rules.{rules}
use mathlib.Core.Path.{refl}
use Prim.Native.Nat.{◌-◌}
use Rattle.show.proofs.Laws as show
use Rattle.lint_words.proofs.Laws as laws
use Rattle.lint_words.proofs.put_escaped.Goals as goal

pub loop-x-init : goal.loop-x-init
loop-x-init c = (show.is show.no_bytes (show.nothing _ _), search rules)

pub loop-x-preserved : goal.loop-x-preserved
loop-x-preserved c = (
  show.is (show.next_escaped c.args.t.now c.loop-x.x-index _ refl c.loop-x-test.true)
      (show.both c.loop-x.invariant.0 c.put_escaped-m.ensures),
  search rules,
)

pub shape_of-out : goal.shape_of-out
shape_of-out c = c.loop-x.invariant.0.same

pub returns : goal.returns
returns c = show.is (laws.whole_escaped _ _ c.loop-x.invariant.1 c.loop-x-test.false) c.loop-x.invariant.0
