use mathlib.Core.Path.{sym, ◌∙◌}
use Rattle.model_walk.proofs.Laws as laws
use Rattle.model_walk.proofs.place_at.Goals as goal

pub returns-in_err-place : goal.returns-in_err-place
returns-in_err-place c = c.from_residual.ensures ∙ sym (laws.by_broken _ _ _ _ _ c.u16_at.ensures c.in_err-place.was)

pub returns : goal.returns
returns c =
    c.then_some.ensures ∙ laws.staying_is _ _ _ _ ∙ sym (laws.by_is _ _ _ _ _ c.u16_at.ensures c.in_ok-place.was)
