use mathlib.Core.Path.{sym, ◌∙◌}
use Prim.Native.Nat.{◌-◌}
use Rattle.lint_access.proofs.Laws as touches
use Rattle.cone_sets.proofs.Laws as laws
use Rattle.cone_sets.proofs.needs.Goals as goal

pub loop-k-init : goal.loop-k-init
loop-k-init c = laws.needs_is _ _ _ _ ∙ touches.over_start _ _ _ c.reads-set.ensures

pub loop-k-preserved : goal.loop-k-preserved
loop-k-preserved c =
    c.loop-k.invariant ∙ touches.over_more _ _ _ _ _ c.loop-k-test.true
    c.add_toggle-set.ensures

pub returns : goal.returns
returns c = sym (c.loop-k.invariant ∙ touches.over_end _ _ _ _ _ c.loop-k-test.false)
