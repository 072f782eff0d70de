use native.Mathlib.Nat.{sub-zero, sub-add-eq}
use native.Mathlib.Omega.{arith}
use Prim.Native.Nat.{◌-◌}
use mathlib.Core.Path.{refl, sym, ◌∙◌}
use Rattle.model_check.proofs.Laws as laws
use Rattle.model_check.proofs.among.Goals as goal

pub loop-init : goal.loop-init
loop-init c = rw sub-zero

pub returns-in_default : goal.returns-in_default
returns-in_default c =
    sym (c.loop.invariant ∙ laws.among_broken _ _ _ c.u16_at.ensures _ (omega arith)
    c.in_default.is)

pub returns-then-z-place : goal.returns-then-z-place
returns-then-z-place c =
    sym (c.loop.invariant ∙ laws.among_here _ _ _ c.u16_at.ensures _ (omega arith)
    c.in-Some.is c.if-z-place.true)

pub loop-preserved : goal.loop-preserved
loop-preserved c =
    rw sub-add-eq (c.loop.invariant ∙ laws.among_later _ _ _ c.u16_at.ensures _ (omega arith) c.in-Some.is
    c.if-z-place.false)

pub returns : goal.returns
returns c = sym (c.loop.invariant ∙ laws.among_end _ _ _ _ (omega arith))
