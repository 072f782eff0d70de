use mathlib.Core.Path.{sym, ◌∙◌}
use native.Mathlib.Omega.{arith}
use Rattle.model_sections.proofs.Laws as laws
use Rattle.model_sections.proofs.gaps_bad.Goals as goal

pub loop-j-init : goal.loop-j-init
loop-j-init c = (laws.gaps_left _ _ _ (omega arith), omega arith)

pub returns-in_default : goal.returns-in_default
returns-in_default c =
    sym (c.loop-j.invariant.0 ∙ laws.gaps_broken _ _ _ c.u32_at.ensures _ (omega arith)
    c.in_default.is)

pub returns-then-gap-gt86400 : goal.returns-then-gap-gt86400
returns-then-gap-gt86400 c =
    sym (c.loop-j.invariant.0 ∙ laws.gaps_long _ _ _ c.u32_at.ensures c.in-Some.is _ (omega arith)
    c.if-gap-gt86400.true)

pub loop-j-preserved : goal.loop-j-preserved
loop-j-preserved c = (
  c.loop-j.invariant.0 ∙ laws.gaps_next _ _ _ c.u32_at.ensures c.in-Some.is _ (omega arith)
      c.if-gap-gt86400.false ∙ laws.gaps_left _ _ _ (omega arith),
  omega arith,
)

pub returns : goal.returns
returns c = sym (c.loop-j.invariant.0 ∙ laws.gaps_end _ _ _ _ (omega arith))
