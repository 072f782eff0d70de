use mathlib.Core.Path.{sym}
use Rattle.model_validate.proofs.Laws as laws
use Rattle.model_validate.proofs.size_bad.Goals as goal

pub returns-then-entities-eq0 : goal.returns-then-entities-eq0
returns-then-entities-eq0 c = sym (laws.size_1 _ _ c.if-entities-eq0.true)

pub returns-then-entities-gt32 : goal.returns-then-entities-gt32
returns-then-entities-gt32 c = sym (laws.size_2 _ _ c.if-entities-eq0.false c.if-entities-gt32.true)

pub returns-then-numbers-gt32 : goal.returns-then-numbers-gt32
returns-then-numbers-gt32 c = sym (laws.size_3 _ _ c.if-entities-eq0.false c.if-entities-gt32.false c.if-numbers-gt32.true)

pub returns-then-numbers-gt100 : goal.returns-then-numbers-gt100
returns-then-numbers-gt100 c = sym (laws.size_4 _ _ c.if-entities-eq0.false c.if-entities-gt32.false c.if-numbers-gt32.false c.if-numbers-gt100.true)

pub returns : goal.returns
returns c = sym (laws.size_5 _ _ c.if-entities-eq0.false c.if-entities-gt32.false c.if-numbers-gt32.false c.if-numbers-gt100.false)
