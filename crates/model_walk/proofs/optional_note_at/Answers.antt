use mathlib.Core.Path.{sym, ◌∙◌}
use borrow.Author.Tests.{eq-eqb, ne_eqb}
use Rattle.model_walk.proofs.Laws as laws
use Rattle.model_walk.proofs.optional_note_at.Goals as goal

pub returns-in_err-place : goal.returns-in_err-place
returns-in_err-place c = c.from_residual.ensures ∙ sym (laws.by_broken _ _ _ _ _ c.u16_at.ensures c.in_err-place.was)

pub returns-then-place-eq-NO_PLACE : goal.returns-then-place-eq-NO_PLACE
returns-then-place-eq-NO_PLACE c =
    sym (laws.by_is _ _ _ _ _ c.u16_at.ensures c.in_ok-place.was
    ∙ laws.yes_walk _ _ _ _ _ (eq-eqb _ _ c.if-place-eq-NO_PLACE.true) ∙ laws.stayed _ _ _)

pub returns : goal.returns
returns c =
    c.then_some.ensures ∙ laws.noted_if _ _ _ _ c.more.ensures
    ∙ sym (laws.by_is _ _ _ _ _ c.u16_at.ensures c.in_ok-place.was
    ∙ laws.no_walk _ _ _ _ _ (ne_eqb _ _ c.if-place-eq-NO_PLACE.false))
