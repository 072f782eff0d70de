use mathlib.Core.Path.{sym, ◌∙◌}
use Rattle.model_walk.proofs.Laws as laws
use Rattle.model_walk.proofs.trigger_at.Goals as goal

pub returns-in_err-p : goal.returns-in_err-p
returns-in_err-p c =
    c.from_residual.ensures ∙ sym (laws.trigger_is _ _ _ _ ∙ laws.broke _ _ _ _ _ c.place_at.ensures
    c.in_err-p.was)

pub returns-in_err-q : goal.returns-in_err-q
returns-in_err-q c =
    c.from_residual-in_err-q.ensures ∙ sym (laws.trigger_is _ _ _ _ ∙ laws.to _ _ _ _ _ c.place_at.ensures c.in_ok-p.was
    ∙ laws.broke _ _ _ _ _ c.optional_at.ensures c.in_err-q.was)

pub returns-in_err-t : goal.returns-in_err-t
returns-in_err-t c =
    c.from_residual-in_err-t.ensures ∙ sym (laws.trigger_is _ _ _ _ ∙ laws.to _ _ _ _ _ c.place_at.ensures c.in_ok-p.was
    ∙ laws.to _ _ _ _ _ c.optional_at.ensures c.in_ok-q.was
    ∙ laws.broke _ _ _ _ _ c.optional_at-2.ensures c.in_err-t.was)

pub returns-in_err-u : goal.returns-in_err-u
returns-in_err-u c =
    c.from_residual-in_err-u.ensures ∙ sym (laws.trigger_is _ _ _ _ ∙ laws.to _ _ _ _ _ c.place_at.ensures c.in_ok-p.was
    ∙ laws.to _ _ _ _ _ c.optional_at.ensures c.in_ok-q.was
    ∙ laws.to _ _ _ _ _ c.optional_at-2.ensures c.in_ok-t.was
    ∙ laws.broke _ _ _ _ _ c.bytes_at.ensures c.in_err-u.was)

pub returns : goal.returns
returns c =
    c.optional_note_at.ensures ∙ sym (laws.trigger_is _ _ _ _
    ∙ laws.to _ _ _ _ _ c.place_at.ensures c.in_ok-p.was
    ∙ laws.to _ _ _ _ _ c.optional_at.ensures c.in_ok-q.was
    ∙ laws.to _ _ _ _ _ c.optional_at-2.ensures c.in_ok-t.was
    ∙ laws.to _ _ _ _ _ c.bytes_at.ensures c.in_ok-u.was)
