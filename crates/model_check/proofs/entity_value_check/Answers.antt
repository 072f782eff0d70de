use mathlib.Core.Path.{sym, ◌∙◌}
use Rattle.model_check.proofs.Laws as laws
use Rattle.model_check.proofs.entity_value_check.Goals as goal

pub returns-then-count-i : goal.returns-then-count-i
returns-then-count-i c = sym (laws.value_7 _ _ _ _ _ _ c.if-count-i.true)

pub returns-then-value-d : goal.returns-then-value-d
returns-then-value-d c = sym (laws.value_unknown _ _ _ _ _ _ c.if-count-i.false c.if-value-d.true)

pub returns-then-value-d-2 : goal.returns-then-value-d-2
returns-then-value-d-2 c =
    sym (laws.value_unavailable _ _ _ _ _ _ c.if-count-i.false
    c.if-value-d.false c.if-value-d-2.true)

pub returns-then-s-start : goal.returns-then-s-start
returns-then-s-start c =
    sym (laws.value_8 _ _ _ _ _ _ c.if-count-i.false c.if-value-d.false c.if-value-d-2.false
    (laws.listed_out _ _ _ c.if-s-start.true))

pub returns-then-listed_at : goal.returns-then-listed_at
returns-then-listed_at c =
    sym (laws.value_listed _ _ _ _ _ _ c.if-count-i.false c.if-value-d.false c.if-value-d-2.false
    (sym c.listed_at.ensures ∙ c.if-listed_at.true))

pub returns : goal.returns
returns c =
    sym (laws.value_8 _ _ _ _ _ _ c.if-count-i.false c.if-value-d.false c.if-value-d-2.false
    (sym c.listed_at.ensures ∙ c.if-listed_at.false))
