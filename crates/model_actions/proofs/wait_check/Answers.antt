use mathlib.Core.Path.{sym, ◌∙◌}
use Rattle.model_check.proofs.Laws as checks
use Rattle.model_actions.proofs.Laws as laws
use Rattle.model_actions.proofs.wait_check.Goals as goal

pub returns-in_default : goal.returns-in_default
returns-in_default c =
    sym (laws.wait_is _ _ _ _ ∙ checks.refused _ _ _ _ _ c.trigger_check-a.ensures
    c.in_default.is)

pub returns-in_default-b : goal.returns-in_default-b
returns-in_default-b c =
    sym (laws.wait_is _ _ _ _ ∙ checks.to _ _ _ _ _ c.trigger_check-a.ensures c.in-To.is
    ∙ checks.refused _ _ _ _ _ c.day_check-b.ensures c.in_default-b.is)

pub returns : goal.returns
returns c =
    c.skip.ensures ∙ sym (laws.wait_is _ _ _ _ ∙ checks.to _ _ _ _ _ c.trigger_check-a.ensures c.in-To.is
    ∙ checks.to _ _ _ _ _ c.day_check-b.ensures c.in-To-b.is)
