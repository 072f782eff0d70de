use mathlib.Core.Path.{sym, ◌∙◌}
use Rattle.model_check.proofs.Laws as checks
use Rattle.model_sections.proofs.Laws as laws
use Rattle.model_sections.proofs.lists_check.Goals as goal

pub returns-in_default : goal.returns-in_default
returns-in_default c =
    sym (laws.lists_are _ _ _ _ _ ∙ checks.refused _ _ _ _ _ c.triggers_check-a.ensures
    c.in_default.is)

pub returns-in_default-b : goal.returns-in_default-b
returns-in_default-b c =
    sym (laws.lists_are _ _ _ _ _ ∙ checks.to _ _ _ _ _ c.triggers_check-a.ensures c.in-To.is
    ∙ checks.refused _ _ _ _ _ c.predicates_check-b.ensures c.in_default-b.is)

pub returns : goal.returns
returns c =
    c.actions_check.ensures ∙ sym (laws.lists_are _ _ _ _ _
    ∙ checks.to _ _ _ _ _ c.triggers_check-a.ensures c.in-To.is
    ∙ checks.to _ _ _ _ _ c.predicates_check-b.ensures c.in-To-b.is)
