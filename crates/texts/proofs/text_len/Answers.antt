use mathlib.Core.Path.{◌∙◌}
use native.Mathlib.Omega.{arith}
use Rattle.texts.proofs.Laws as laws
use Rattle.texts.proofs.text_len.Goals as goal

pub returns-then-f-at : goal.returns-then-f-at
returns-then-f-at c = (laws.length_past _ _ c.if-f-at.true, omega arith)

pub returns : goal.returns
returns c = (
  c.min.ensures ∙ laws.length_min _ _ _ c.length_byte.ensures.0 c.if-f-at.false,
  omega arith,
)
