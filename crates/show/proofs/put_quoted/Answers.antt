use borrow.Author.Rules.{rules}
use mathlib.Core.Path.{refl, ◌∙◌}
use Rattle.show.proofs.Laws as laws
use Prim.Native.Nat.{◌-◌}
use Rattle.show.proofs.put_quoted.Goals as goal

pub loop-x-init : goal.loop-x-init
loop-x-init c = (laws.is laws.no_bytes (laws.nothing _ _), search rules)

pub loop-x-preserved : goal.loop-x-preserved
loop-x-preserved c = (
  laws.is (laws.next_escaped c.args.t.now c.loop-x.x-index _ refl c.loop-x-test.true)
      (laws.both c.loop-x.invariant.0 c.put_escaped-m.ensures),
  search rules,
)

pub shape_of-out : goal.shape_of-out
shape_of-out c = c.put_byte.ensures.same ∙ c.loop-x.invariant.0.same ∙ c.put_byte-m.ensures.same

pub returns : goal.returns
returns c =
    laws.is (laws.quoted_is _ _ c.loop-x-test.false)
    (laws.both c.put_byte-m.ensures (laws.both c.loop-x.invariant.0 c.put_byte.ensures))
