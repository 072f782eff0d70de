use mathlib.Core.Path.{sym, ◌∙◌}
use native.Mathlib.Omega.{arith}
use Rattle.model_sections.proofs.Laws as laws
use Rattle.model_sections.proofs.section_check.Goals as goal

pub loop-j-init : goal.loop-j-init
loop-j-init c = (laws.parts_left _ _ _ _ _ _ (omega arith), omega arith)

pub returns-in_default : goal.returns-in_default
returns-in_default c =
    sym (c.loop-j.invariant.0 ∙ laws.parts_refused _ _ _ _ _ _ c.part_check-x.ensures _ (omega arith)
    c.in_default.is)

pub loop-j-preserved : goal.loop-j-preserved
loop-j-preserved c = (
  c.loop-j.invariant.0 ∙ laws.parts_next _ _ _ _ _ _ c.part_check-x.ensures _ (omega arith) c.in-To.is
      ∙ laws.parts_left _ _ _ _ _ _ (omega arith),
  omega arith,
)

pub returns : goal.returns
returns c = sym (c.loop-j.invariant.0 ∙ laws.parts_end _ _ _ _ _ _ _ (omega arith))
