use mathlib.Core.Path.{sym, ◌∙◌}
use Rattle.model_walk.proofs.Laws as laws
use Rattle.model_walk.proofs.note_at.Goals as goal

pub returns-in_err-next : goal.returns-in_err-next
returns-in_err-next c = c.from_residual.ensures ∙ sym (laws.broke _ _ _ _ _ c.place_at.ensures c.in_err-next.was)

pub returns : goal.returns
returns c =
    sym (laws.to _ _ _ _ _ c.place_at.ensures c.in_ok-next.was ∙ laws.noted_is _ _ _
    ∙ laws.to_same c.more.ensures)
