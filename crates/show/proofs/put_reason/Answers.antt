use borrow.Author.Rules.{rules}
use native.Mathlib.Omega.{arith}
use Rattle.show.proofs.Laws as laws
use Prim.Native.Nat.{◌-◌}
use Rattle.reasons.specs.Reasons.{render}
use Rattle.show.proofs.put_reason.Goals as goal

pub loop-i-init : goal.loop-i-init
loop-i-init c = (laws.nothing _ _, search rules)

pub loop-i-preserved : goal.loop-i-preserved
loop-i-preserved c = (
  laws.is (laws.next (render c.args.f.now c.args.r) c.loop-i.i _ c.byte_at.ensures (omega arith))
      (laws.both c.loop-i.invariant.0 c.put_byte-m.ensures),
  omega arith,
)

pub shape_of-out : goal.shape_of-out
shape_of-out c = c.loop-i.invariant.0.same

pub returns : goal.returns
returns c = laws.is (laws.whole _ _ c.loop-i.invariant.1 (omega arith)) c.loop-i.invariant.0
