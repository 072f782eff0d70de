use mathlib.Core.Path.{sym, ◌∙◌}
use borrow.Author.Tests.{eq-eqb, ne_eqb}
use Rattle.model_walk.proofs.optional_at.Goals.{then-place-eq-NO_PLACE, else-place-eq-NO_PLACE}
use Rattle.model_walk.proofs.Laws as laws
use Rattle.model_walk.proofs.optional_at.Goals as goal

pub returns-in_err-place : goal.returns-in_err-place
returns-in_err-place c = c.from_residual.ensures ∙ sym (laws.by_broken _ _ _ _ _ c.u16_at.ensures c.in_err-place.was)

pub returns : goal.returns
returns c =
    c.then_some.ensures
    ∙ (elim c.if-place-eq-NO_PLACE.branch [
      | then-place-eq-NO_PLACE w ↦ laws.first_stays _ _ _ _ w.then_some-is (eq-eqb _ _ w.if-place-eq-NO_PLACE.true)
      | else-place-eq-NO_PLACE w ↦ laws.other_stays _ _ _ w.then_some-is (ne_eqb _ _ w.if-place-eq-NO_PLACE.false)
    ])
    ∙ sym (laws.by_is _ _ _ _ _ c.u16_at.ensures c.in_ok-place.was)
