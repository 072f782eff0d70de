use native.Mathlib.Nat.{sub-zero, sub-add-eq}
use native.Mathlib.Omega.{arith}
use Prim.Native.Nat.{◌-◌}
use mathlib.Core.Path.{refl, sym, ◌∙◌}
use Rattle.model_sections.proofs.Laws as laws
use Rattle.model_sections.proofs.any_bad.Goals as goal

pub loop-init : goal.loop-init
loop-init c = rw sub-zero

pub returns-in_default : goal.returns-in_default
returns-in_default c =
    sym (c.loop.invariant ∙ laws.any_broken _ _ c.u16_at.ensures _ (omega arith)
    c.in_default.is)

pub returns-then-bad_place : goal.returns-then-bad_place
returns-then-bad_place c =
    sym (c.loop.invariant ∙ laws.any_here _ _ c.u16_at.ensures c.in-Some.is _ (omega arith)
    (sym c.bad_place.ensures ∙ c.if-bad_place.true))

pub loop-preserved : goal.loop-preserved
loop-preserved c =
    rw sub-add-eq (c.loop.invariant ∙ laws.any_later _ _ c.u16_at.ensures c.in-Some.is _ (omega arith)
    (sym c.bad_place.ensures ∙ c.if-bad_place.false))

pub returns : goal.returns
returns c = sym (c.loop.invariant ∙ laws.any_end _ _ _ (omega arith))
