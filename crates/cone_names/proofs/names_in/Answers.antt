use mathlib.Core.Path.{sym, ◌∙◌}
use Prim.Native.Nat.{◌-◌}
use Rattle.cone_names.proofs.Laws as laws
use Rattle.cone_names.proofs.names_in.Goals as goal

pub loop-place-init : goal.loop-place-init
loop-place-init c = laws.names_is _ _ _

pub loop-place-preserved : goal.loop-place-preserved
loop-place-preserved c = c.loop-place.invariant ∙ laws.from_more _ _ _ _ _ c.loop-place-test.true c.with_wanted-n.ensures

pub returns : goal.returns
returns c = sym (c.loop-place.invariant ∙ laws.from_end _ _ _ _ _ c.loop-place-test.false)
