use mathlib.Core.Path.{sym, ◌∙◌}
use Rattle.model_sections.proofs.Laws as laws
use Rattle.model_sections.proofs.bad_id.Goals as goal

pub returns-then-bad_place : goal.returns-then-bad_place
returns-then-bad_place c =
    sym
    (laws.id_bad _ _ _ _ _ (sym c.bad_place.ensures ∙ c.if-bad_place.true))

pub returns : goal.returns
returns c =
    c.seen.ensures
    ∙ sym (laws.id_fine _ _ _ _ _ (sym c.bad_place.ensures ∙ c.if-bad_place.false))
