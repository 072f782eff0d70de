use mathlib.Core.Path.{sym, ◌∙◌}
use Rattle.model_check.proofs.Laws as laws
use Rattle.model_check.proofs.trigger_of_check.Goals as goal

pub returns-in_default : goal.returns-in_default
returns-in_default c =
    sym (laws.trigger_of_is _ _ _ _ _ _ _ ∙ laws.refused _ _ _ _ _ c.declared_check-a.ensures
    c.in_default.is)

pub returns-in_default-b : goal.returns-in_default-b
returns-in_default-b c =
    sym (laws.trigger_of_is _ _ _ _ _ _ _ ∙ laws.to _ _ _ _ _ c.declared_check-a.ensures c.in-To.is
    ∙ laws.refused _ _ _ _ _ c.optional_check-b.ensures c.in_default-b.is)

pub returns : goal.returns
returns c =
    c.optional_check.ensures ∙ sym (laws.trigger_of_is _ _ _ _ _ _ _
    ∙ laws.to _ _ _ _ _ c.declared_check-a.ensures c.in-To.is
    ∙ laws.to _ _ _ _ _ c.optional_check-b.ensures c.in-To-b.is)
