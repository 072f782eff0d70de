use mathlib.Core.Path.{sym, ◌∙◌}
use Rattle.model_sections.proofs.Laws as laws
use Rattle.model_sections.proofs.conditions_check.Goals as goal

pub returns-in_default : goal.returns-in_default
returns-in_default c = sym (laws.conditions_broken _ _ _ _ c.u16_at.ensures c.in_default.is)

pub returns-then-count-eq0 : goal.returns-then-count-eq0
returns-then-count-eq0 c =
    sym (laws.conditions_none _ _ _ _ c.u16_at.ensures
    c.in-Some.is c.if-count-eq0.true)

pub returns-then-count-gt32 : goal.returns-then-count-gt32
returns-then-count-gt32 c = sym (laws.conditions_many _ _ _ _ c.u16_at.ensures c.in-Some.is c.if-count-eq0.false c.if-count-gt32.true)

pub returns : goal.returns
returns c =
    c.predicates_check.ensures
    ∙ sym (laws.conditions_are _ _ _ _ c.u16_at.ensures c.in-Some.is c.if-count-eq0.false
    c.if-count-gt32.false)
