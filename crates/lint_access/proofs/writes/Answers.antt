use mathlib.Core.Path.{refl, sym, ◌∙◌}
use Prim.Native.Nat.{◌-◌}
use Rattle.lint_access.proofs.Laws as laws
use Rattle.lint_access.proofs.writes.Goals as goal

pub loop-k-init : goal.loop-k-init
loop-k-init c = laws.over_start _ _ _ refl

pub loop-k-preserved : goal.loop-k-preserved
loop-k-preserved c =
    c.loop-k.invariant ∙ laws.over_more _ _ _ _ _ c.loop-k-test.true
    c.add_write-set.ensures

pub returns : goal.returns
returns c = sym (laws.writes_is _ _ _ ∙ c.loop-k.invariant ∙ laws.over_end _ _ _ _ _ c.loop-k-test.false)
