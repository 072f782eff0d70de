use mathlib.Core.Path.{sym, ◌∙◌}
use Prim.Native.Nat.{◌-◌}
use Rattle.cone_close.proofs.Laws as laws
use Rattle.cone_close.proofs.close.Goals as goal

pub loop-init : goal.loop-init
loop-init c = laws.closed_is _ _ _ _

pub loop-preserved : goal.loop-preserved
loop-preserved c = c.loop.invariant ∙ laws.rounds_more _ _ _ _ _ c.loop-test.true c.round-c.ensures

pub returns : goal.returns
returns c = sym (c.loop.invariant ∙ laws.rounds_end _ _ _ _ _ c.loop-test.false)
