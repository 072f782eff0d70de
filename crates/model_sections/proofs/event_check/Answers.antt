use mathlib.Core.Path.{sym, ◌∙◌}
use Rattle.model_check.proofs.Laws as checks
use Rattle.model_sections.proofs.Laws as laws
use Rattle.model_sections.proofs.event_check.Goals as goal

pub returns-in_default : goal.returns-in_default
returns-in_default c =
    sym (laws.event_is _ _ _ _ ∙ checks.refused _ _ _ _ _ c.skip-a.ensures
    c.in_default.is)

pub returns : goal.returns
returns c =
    c.input_check.ensures ∙ sym (laws.event_is _ _ _ _
    ∙ checks.to _ _ _ _ _ c.skip-a.ensures c.in-To.is)
