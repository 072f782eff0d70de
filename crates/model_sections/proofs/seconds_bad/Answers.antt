use mathlib.Core.Path.{sym, ◌∙◌}
use native.Mathlib.Omega.{arith}
use Rattle.model_sections.proofs.Laws as laws
use Rattle.model_sections.proofs.seconds_bad.Goals as goal

pub loop-j-init : goal.loop-j-init
loop-j-init c = (laws.seconds_left _ _ _ _ _ (omega arith), omega arith)

pub returns-in_default : goal.returns-in_default
returns-in_default c =
    sym (c.loop-j.invariant.0 ∙ laws.seconds_broken _ _ _ _ _ c.u32_at.ensures _ (omega arith)
    c.in_default.is)

pub returns-then-horizon-second : goal.returns-then-horizon-second
returns-then-horizon-second c =
    sym (c.loop-j.invariant.0 ∙ laws.seconds_late _ _ _ _ _ c.u32_at.ensures c.in-Some.is _
    (omega arith) c.if-horizon-second.true)

pub returns-then-second-last : goal.returns-then-second-last
returns-then-second-last c =
    sym (c.loop-j.invariant.0 ∙ laws.seconds_fall _ _ _ _ _ c.u32_at.ensures c.in-Some.is _ (omega arith)
    c.if-horizon-second.false c.if-second-last.true)

pub loop-j-preserved : goal.loop-j-preserved
loop-j-preserved c = (
  c.loop-j.invariant.0 ∙ laws.seconds_next _ _ _ _ _ c.u32_at.ensures c.in-Some.is _ (omega arith)
      c.if-horizon-second.false c.if-second-last.false ∙ laws.seconds_left _ _ _ _ _ (omega arith),
  omega arith,
)

pub returns : goal.returns
returns c = sym (c.loop-j.invariant.0 ∙ laws.seconds_end _ _ _ _ _ _ (omega arith))
