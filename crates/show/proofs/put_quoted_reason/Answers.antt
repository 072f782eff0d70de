use borrow.Author.Rules.{rules}
use mathlib.Core.Path.{◌∙◌}
use native.Mathlib.Omega.{arith}
use Rattle.show.proofs.Laws as laws
use Prim.Native.Nat.{◌-◌}
use Rattle.reasons.specs.Reasons.{render}
use Rattle.show.proofs.put_quoted_reason.Goals as goal

pub loop-i-init : goal.loop-i-init
loop-i-init c = (laws.is laws.no_bytes (laws.nothing _ _), search rules)

pub loop-i-preserved : goal.loop-i-preserved
loop-i-preserved c = (
  laws.is (laws.next_escaped (render c.args.f.now c.args.r) c.loop-i.i _ c.byte_at.ensures
      (omega arith)) (laws.both c.loop-i.invariant.0 c.put_escaped-m.ensures),
  omega arith,
)

pub shape_of-out : goal.shape_of-out
shape_of-out c = c.put_byte.ensures.same ∙ c.loop-i.invariant.0.same ∙ c.put_byte-m.ensures.same

pub returns : goal.returns
returns c =
    laws.is (laws.quoted_is _ c.loop-i.i (omega arith))
    (laws.both c.put_byte-m.ensures (laws.both c.loop-i.invariant.0 c.put_byte.ensures))
