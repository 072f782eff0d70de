use native.Mathlib.Nat.{sub-zero, sub-add-eq}
use native.Mathlib.Omega.{arith}
use Prim.Native.Nat.{◌-◌}
use mathlib.Core.Path.{sym, ◌∙◌}
use Rattle.model_order.proofs.Laws as laws
use Rattle.model_order.proofs.has.Goals as goal

pub returns-in_default : goal.returns-in_default
returns-in_default c = sym (laws.has_none _ _ _ c.u16_at.ensures c.in_default.is)

pub loop-init : goal.loop-init
loop-init c =
    rw sub-zero (laws.has_is _ _ _ c.u16_at.ensures c.in-Some.is)

pub returns-in_default-text_at : goal.returns-in_default-text_at
returns-in_default-text_at c =
    sym (c.loop.invariant ∙ laws.among_broken _ _ _ c.text_at.ensures _ (omega arith)
    c.in_default-text_at.is)

pub returns-then-text_is : goal.returns-then-text_is
returns-then-text_is c =
    sym (c.loop.invariant ∙ laws.among_here _ _ _ c.text_at.ensures c.in-Some-text_at.is c.text_is.ensures _
    (omega arith) c.if-text_is.true)

pub loop-preserved : goal.loop-preserved
loop-preserved c =
    rw sub-add-eq (c.loop.invariant ∙ laws.among_later _ _ _ c.text_at.ensures c.in-Some-text_at.is c.text_is.ensures _
    (omega arith) c.if-text_is.false)

pub returns : goal.returns
returns c = sym (c.loop.invariant ∙ laws.among_end _ _ _ _ (omega arith))
