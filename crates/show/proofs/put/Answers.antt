use borrow.Author.Rules.{rules}
use mathlib.Core.Path.{refl}
use Rattle.show.proofs.Laws as laws
use Prim.Native.Nat.{◌-◌}
use Rattle.show.proofs.put.Goals as goal

pub loop-x-init : goal.loop-x-init
loop-x-init c = (laws.nothing _ _, search rules)

pub loop-x-preserved : goal.loop-x-preserved
loop-x-preserved c = (
  laws.is (laws.next c.args.t.now c.loop-x.x-index _ refl c.loop-x-test.true)
      (laws.both c.loop-x.invariant.0 c.put_byte-m.ensures),
  search rules,
)

pub shape_of-out : goal.shape_of-out
shape_of-out c = c.loop-x.invariant.0.same

pub returns : goal.returns
returns c = laws.is (laws.whole _ _ c.loop-x.invariant.1 c.loop-x-test.false) c.loop-x.invariant.0
