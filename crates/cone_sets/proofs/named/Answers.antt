use mathlib.Core.Path.{refl, sym, ◌∙◌}
use Prim.Native.Nat.{◌-◌}
use Rattle.lint_access.proofs.Laws as touches
use Rattle.cone_sets.proofs.Laws as laws
use Rattle.cone_sets.proofs.named.Goals as goal

pub loop-k-init : goal.loop-k-init
loop-k-init c = laws.named_is _ _ _ ∙ touches.over_start _ _ _ refl

pub loop-k-preserved : goal.loop-k-preserved
loop-k-preserved c =
    c.loop-k.invariant ∙ touches.over_more _ _ _ _ _ c.loop-k-test.true
    c.add_named-set.ensures

pub returns : goal.returns
returns c = sym (c.loop-k.invariant ∙ touches.over_end _ _ _ _ _ c.loop-k-test.false)
