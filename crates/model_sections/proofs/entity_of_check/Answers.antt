use mathlib.Core.Path.{sym, ◌∙◌}
use Rattle.model_sections.proofs.Laws as laws
use Rattle.model_sections.proofs.entity_of_check.Goals as goal

pub returns-then-stale_bad : goal.returns-then-stale_bad
returns-then-stale_bad c = sym (laws.entity_5 _ _ _ _ _ _ _ _ _ (sym c.stale_bad.ensures ∙ c.if-stale_bad.true))

pub returns-then-bad_domain : goal.returns-then-bad_domain
returns-then-bad_domain c =
    sym (laws.entity_6 _ _ _ _ _ _ _ _ _ (sym c.stale_bad.ensures ∙ c.if-stale_bad.false)
    (sym c.bad_domain.ensures ∙ c.if-bad_domain.true))

pub returns : goal.returns
returns c =
    c.value_check.ensures
    ∙ sym (laws.entity_value _ _ _ _ _ _ _ _ _ (sym c.stale_bad.ensures ∙ c.if-stale_bad.false)
    (sym c.bad_domain.ensures ∙ c.if-bad_domain.false))
