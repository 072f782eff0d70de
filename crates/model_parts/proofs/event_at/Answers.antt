use mathlib.Core.Path.{sym, ◌∙◌}
use Rattle.model_parts.proofs.Laws as laws
use Rattle.model_walk.proofs.Laws as walks
use Rattle.model_parts.proofs.event_at.Goals as goal

pub returns-in_err-p : goal.returns-in_err-p
returns-in_err-p c =
    c.from_residual.ensures ∙ sym (laws.event_is _ _ _ _ ∙ walks.broke _ _ _ _ _ c.bytes_at.ensures
    c.in_err-p.was)

pub returns : goal.returns
returns c =
    c.input_at.ensures ∙ sym (laws.event_is _ _ _ _
    ∙ walks.to _ _ _ _ _ c.bytes_at.ensures c.in_ok-p.was)
