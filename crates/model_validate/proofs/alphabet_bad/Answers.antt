use mathlib.Core.Path.{sym, ◌∙◌}
use Rattle.model_validate.proofs.Laws as laws
use Rattle.model_validate.proofs.alphabet_bad.Goals as goal

pub returns-then-numbers-gt12 : goal.returns-then-numbers-gt12
returns-then-numbers-gt12 c = sym (laws.alphabet_1 _ _ _ c.if-numbers-gt12.true)

pub returns-then-numbers-eq0 : goal.returns-then-numbers-eq0
returns-then-numbers-eq0 c = sym (laws.alphabet_2 _ _ _ c.if-numbers-gt12.false c.if-numbers-eq0.true)

pub returns-then-numbers-gt4 : goal.returns-then-numbers-gt4
returns-then-numbers-gt4 c = sym (laws.alphabet_3 _ _ _ c.if-numbers-gt12.false c.if-numbers-eq0.false c.if-numbers-gt4.true)

pub returns : goal.returns
returns c = c.gaps_bad.ensures ∙ sym (laws.alphabet_4 _ _ _ c.if-numbers-gt12.false c.if-numbers-eq0.false c.if-numbers-gt4.false)
