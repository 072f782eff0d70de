use mathlib.Core.Path.{sym, ◌∙◌}
use Rattle.model_check.proofs.Laws as checks
use Rattle.model_sections.proofs.Laws as laws
use Rattle.model_sections.proofs.guard_check.Goals as goal

pub returns-in_default : goal.returns-in_default
returns-in_default c =
    sym (laws.guard_is _ _ _ _ ∙ checks.by_broken _ _ _ _ _ c.u16_at.ensures
    c.in_default.is)

pub returns-in_default-u16_at : goal.returns-in_default-u16_at
returns-in_default-u16_at c =
    sym (laws.guard_is _ _ _ _ ∙ checks.by_is _ _ _ _ _ c.u16_at.ensures c.in-Some.is
    ∙ checks.by_broken _ _ _ _ _ c.u16_at-2.ensures c.in_default-u16_at.is)

pub returns-in_default-a : goal.returns-in_default-a
returns-in_default-a c =
    sym (laws.guard_is _ _ _ _ ∙ checks.by_is _ _ _ _ _ c.u16_at.ensures c.in-Some.is
    ∙ checks.by_is _ _ _ _ _ c.u16_at-2.ensures c.in-Some-u16_at.is
    ∙ checks.refused _ _ _ _ _ c.conditions_check-a.ensures c.in_default-a.is)

pub returns : goal.returns
returns c =
    c.value_check.ensures ∙ sym (laws.guard_is _ _ _ _ ∙ checks.by_is _ _ _ _ _ c.u16_at.ensures c.in-Some.is
    ∙ checks.by_is _ _ _ _ _ c.u16_at-2.ensures c.in-Some-u16_at.is
    ∙ checks.to _ _ _ _ _ c.conditions_check-a.ensures c.in-To.is)
