use native.Mathlib.Nat.{sub-zero, sub-add-eq}
use native.Mathlib.Omega.{arith}
use Prim.Native.Nat.{◌-◌}
use borrow.Author.Rules.{rules}
use mathlib.Core.Path.{refl, sym, ◌∙◌}
use Rattle.engine_notes.proofs.Laws as laws
use Rattle.engine_notes.proofs.part_notes.Goals as goal

pub returns-in_default : goal.returns-in_default
returns-in_default c =
    record {
      is = sym (laws.parts_is _ _ _ _ _
          ∙ laws.by_broken _ _ _ _ _ c.u16_at.ensures c.in_default.is);
      clean = λ t k. k;
    }

pub loop-init : goal.loop-init
loop-init c =
    rw sub-zero ((
      (refl, λ t k. k),
      laws.parts_is _ _ _ _ _
          ∙ laws.by_is _ _ _ _ _ c.u16_at.ensures c.in-Some.is,
    ))

pub loop-preserved : goal.loop-preserved
loop-preserved c =
    rw sub-add-eq ((
      (search rules, λ t k. c.part_note-d.ensures.clean t (c.loop.invariant.0.1 t k)),
      c.loop.invariant.1
          ∙ laws.times_more _ _ _ _ _ (omega arith)
          ∙ laws.to _ _ _ _ _ _ _ c.part_note-d.ensures.is,
    ))

pub returns : goal.returns
returns c =
    record {
      is = sym (c.loop.invariant.1 ∙ laws.times_none _ _ _ _ _ (omega arith));
      clean =
          c.loop.invariant.0.1;
    }
