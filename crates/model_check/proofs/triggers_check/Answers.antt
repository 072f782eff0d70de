use native.Mathlib.Nat.{sub-zero, sub-add-eq}
use native.Mathlib.Omega.{arith}
use Prim.Native.Nat.{◌-◌}
use mathlib.Core.Path.{sym, ◌∙◌}
use Rattle.model_check.proofs.Laws as laws
use Rattle.model_check.proofs.triggers_check.Goals as goal

pub loop-init : goal.loop-init
loop-init c =
    rw sub-zero (laws.triggers_is _ _ _ _ _)

pub returns-in_default : goal.returns-in_default
returns-in_default c =
    sym (c.loop.invariant ∙ laws.times_more _ _ _ _ _ (omega arith)
    ∙ laws.refused _ _ _ _ _ c.trigger_check-y.ensures c.in_default.is)

pub loop-preserved : goal.loop-preserved
loop-preserved c =
    rw sub-add-eq (c.loop.invariant ∙ laws.times_more _ _ _ _ _ (omega arith)
    ∙ laws.to _ _ _ _ _ c.trigger_check-y.ensures c.in-To.is)

pub returns : goal.returns
returns c = sym (c.loop.invariant ∙ laws.times_none _ _ _ _ _ (omega arith))
