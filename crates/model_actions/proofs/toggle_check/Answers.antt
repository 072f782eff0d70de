use mathlib.Core.Path.{sym, ◌∙◌}
use Rattle.model_check.proofs.Laws as checks
use Rattle.model_actions.proofs.Laws as laws
use Rattle.model_actions.proofs.toggle_check.Goals as goal

pub returns-in_default : goal.returns-in_default
returns-in_default c =
    sym (laws.toggle_is _ _ _ _ ∙ checks.by_broken _ _ _ _ _ c.u16_at.ensures
    c.in_default.is)

pub returns-in_default-a : goal.returns-in_default-a
returns-in_default-a c =
    sym (laws.toggle_is _ _ _ _ ∙ checks.by_is _ _ _ _ _ c.u16_at.ensures c.in-Some.is
    ∙ checks.refused _ _ _ _ _ c.value_check-a.ensures c.in_default-a.is)

pub returns : goal.returns
returns c =
    c.value_check.ensures ∙ sym (laws.toggle_is _ _ _ _ ∙ checks.by_is _ _ _ _ _ c.u16_at.ensures c.in-Some.is
    ∙ checks.to _ _ _ _ _ c.value_check-a.ensures c.in-To.is)
