use mathlib.Core.Path.{sym, ◌∙◌}
use Rattle.model_sections.proofs.Laws as laws
use Rattle.model_sections.proofs.bad_domain.Goals as goal

pub returns-then-bad_place : goal.returns-then-bad_place
returns-then-bad_place c = sym (laws.domain_1 _ _ _ _ (sym c.bad_place.ensures ∙ c.if-bad_place.true))

pub returns-then-count-eq0 : goal.returns-then-count-eq0
returns-then-count-eq0 c = sym (laws.domain_2 _ _ _ _ (sym c.bad_place.ensures ∙ c.if-bad_place.false) c.if-count-eq0.true)

pub returns-then-count-gt16 : goal.returns-then-count-gt16
returns-then-count-gt16 c =
    sym (laws.domain_3 _ _ _ _ (sym c.bad_place.ensures ∙ c.if-bad_place.false) c.if-count-eq0.false
    c.if-count-gt16.true)

pub returns-then-any_bad : goal.returns-then-any_bad
returns-then-any_bad c =
    sym (laws.domain_4 _ _ _ _ (sym c.bad_place.ensures ∙ c.if-bad_place.false) c.if-count-eq0.false c.if-count-gt16.false
    (sym c.any_bad.ensures ∙ c.if-any_bad.true))

pub returns : goal.returns
returns c =
    c.doubled.ensures
    ∙ sym (laws.domain_5 _ _ _ _ (sym c.bad_place.ensures ∙ c.if-bad_place.false) c.if-count-eq0.false c.if-count-gt16.false
    (sym c.any_bad.ensures ∙ c.if-any_bad.false))
