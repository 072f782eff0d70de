use mathlib.Core.Path.{sym, ◌∙◌}
use Rattle.model_walk.proofs.Laws as laws
use Rattle.model_walk.proofs.wait_at.Goals as goal

pub returns-in_err-p : goal.returns-in_err-p
returns-in_err-p c = c.from_residual.ensures ∙ sym (laws.broke _ _ _ _ _ c.trigger_at.ensures c.in_err-p.was)

pub returns-in_err-q : goal.returns-in_err-q
returns-in_err-q c =
    c.from_residual-in_err-q.ensures ∙ sym (laws.to _ _ _ _ _ c.trigger_at.ensures c.in_ok-p.was
    ∙ laws.broke _ _ _ _ _ c.bytes_at.ensures c.in_err-q.was)

pub returns : goal.returns
returns c =
    c.kind_at.ensures ∙ sym (laws.to _ _ _ _ _ c.trigger_at.ensures c.in_ok-p.was
    ∙ laws.to _ _ _ _ _ c.bytes_at.ensures c.in_ok-q.was)
