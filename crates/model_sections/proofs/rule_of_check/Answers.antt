use mathlib.Core.Path.{sym, ◌∙◌}
use Rattle.model_check.proofs.Laws as checks
use Rattle.model_sections.proofs.Laws as laws
use Rattle.model_sections.proofs.rule_of_check.Goals as goal

pub returns-in_default : goal.returns-in_default
returns-in_default c =
    sym (laws.rule_of_is _ _ _ _ ∙ checks.refused _ _ _ _ _ c.skip-a.ensures
    c.in_default.is)

pub returns-in_default-u32_at : goal.returns-in_default-u32_at
returns-in_default-u32_at c =
    sym (laws.rule_of_is _ _ _ _ ∙ checks.to _ _ _ _ _ c.skip-a.ensures c.in-To.is
    ∙ checks.by_broken _ _ _ _ _ c.u32_at.ensures c.in_default-u32_at.is)

pub returns : goal.returns
returns c =
    c.rule_lists_check.ensures ∙ sym (laws.rule_of_is _ _ _ _ ∙ checks.to _ _ _ _ _ c.skip-a.ensures c.in-To.is
    ∙ checks.by_is _ _ _ _ _ c.u32_at.ensures c.in-Some.is)
