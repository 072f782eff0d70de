use mathlib.Core.Path.{sym, ◌∙◌}
use Rattle.model_parts.proofs.Laws as laws
use Rattle.model_walk.proofs.Laws as walks
use Rattle.model_parts.proofs.invariant_at.Goals as goal

pub returns-in_err-kind : goal.returns-in_err-kind
returns-in_err-kind c =
    c.from_residual.ensures ∙ sym (laws.invariant_is _ _ _ _ ∙ walks.by_broken _ _ _ _ _ c.u8_at.ensures
    c.in_err-kind.was)

pub returns-in_err-q : goal.returns-in_err-q
returns-in_err-q c =
    c.from_residual-in_err-q.ensures ∙ sym (laws.invariant_is _ _ _ _ ∙ walks.by_is _ _ _ _ _ c.u8_at.ensures c.in_ok-kind.was
    ∙ walks.broke _ _ _ _ _ c.place_at.ensures c.in_err-q.was)

pub returns : goal.returns
returns c =
    c.condition_at.ensures ∙ sym (laws.invariant_is _ _ _ _ ∙ walks.by_is _ _ _ _ _ c.u8_at.ensures c.in_ok-kind.was
    ∙ walks.to _ _ _ _ _ c.place_at.ensures c.in_ok-q.was)
