use mathlib.Core.Path.{sym, ◌∙◌}
use Rattle.model_walk.proofs.Laws as laws
use Rattle.model_walk.proofs.two_places_at.Goals as goal

pub returns-in_err-p : goal.returns-in_err-p
returns-in_err-p c = c.from_residual.ensures ∙ sym (laws.broke _ _ _ _ _ c.place_at.ensures c.in_err-p.was)

pub returns : goal.returns
returns c =
    c.place_at-2.ensures
    ∙ sym (laws.to _ _ _ _ _ c.place_at.ensures c.in_ok-p.was)
