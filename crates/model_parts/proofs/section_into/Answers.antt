use native.Mathlib.Nat.{sub-zero, sub-add-eq}
use Prim.Native.Nat.{◌-◌}
use mathlib.Core.Path.{sym, ◌∙◌}
use native.Mathlib.Omega.{arith}
use Rattle.model_parts.proofs.Laws as laws
use Rattle.model_parts.proofs.section_into.Goals as goal

pub returns-in_default : goal.returns-in_default
returns-in_default c =
    sym (laws.section_broken _ _ _ _ c.u16_at.ensures c.requires
    c.in_default.is)

pub loop-i-init : goal.loop-i-init
loop-i-init c =
    rw sub-zero ((laws.section_is _ _ _ _ c.u16_at.ensures c.requires c.in-Some.is, omega arith))

pub returns-in_default-part_at : goal.returns-in_default-part_at
returns-in_default-part_at c =
    sym (c.loop-i.invariant.0 ∙ laws.fill_broken _ _ _ _ _ _ _ c.part_at.ensures c.put.ensures _
    (omega arith) c.in_default-part_at.is)

pub loop-i-preserved : goal.loop-i-preserved
loop-i-preserved c =
    rw sub-add-eq ((
      c.loop-i.invariant.0 ∙ laws.fill_more _ _ _ _ _ _ _ c.part_at.ensures c.put.ensures _ (omega arith)
          c.in-Some-part_at.is,
      omega arith,
    ))

pub returns : goal.returns
returns c = sym (c.loop-i.invariant.0 ∙ laws.fill_end _ _ _ _ _ _ _ _ (omega arith))
