use native.Mathlib.Nat.{sub-zero, sub-add-eq}
use native.Mathlib.Omega.{arith}
use Prim.Native.Nat.{◌-◌}
use mathlib.Core.Path.{refl, sym, ◌∙◌}
use Rattle.model_sections.proofs.Laws as laws
use Rattle.model_sections.proofs.doubled.Goals as goal

pub loop-i-init : goal.loop-i-init
loop-i-init c = rw sub-zero

pub returns-in_default : goal.returns-in_default
returns-in_default c =
    sym (c.loop-i.invariant ∙ laws.double_broken _ _ c.u16_at.ensures _ (omega arith)
    c.in_default.is)

pub returns-then-among : goal.returns-then-among
returns-then-among c =
    sym (c.loop-i.invariant ∙ laws.double_here _ _ c.u16_at.ensures c.in-Some.is _ (omega arith)
    (sym c.among.ensures ∙ c.if-among.true))

pub loop-i-preserved : goal.loop-i-preserved
loop-i-preserved c =
    rw sub-add-eq (c.loop-i.invariant ∙ laws.double_later _ _ c.u16_at.ensures c.in-Some.is _ (omega arith)
    (sym c.among.ensures ∙ c.if-among.false))

pub returns : goal.returns
returns c = sym (c.loop-i.invariant ∙ laws.double_end _ _ _ (omega arith))
