use mathlib.Core.Path.{sym, ◌∙◌}
use Rattle.model_sections.proofs.Laws as laws
use Rattle.model_sections.proofs.invariant_of_check.Goals as goal

pub returns-then-kind-eq0 : goal.returns-then-kind-eq0
returns-then-kind-eq0 c = c.conditions_check.ensures ∙ sym (laws.invariant_0 _ _ _ _ c.if-kind-eq0.true)

pub returns-then-kind-eq1 : goal.returns-then-kind-eq1
returns-then-kind-eq1 c = c.guard_check.ensures ∙ sym (laws.invariant_1 _ _ _ _ c.if-kind-eq1.true)

pub returns-then-kind-eq2 : goal.returns-then-kind-eq2
returns-then-kind-eq2 c = c.transition_check.ensures ∙ sym (laws.invariant_2 _ _ _ _ c.if-kind-eq2.true)

pub returns : goal.returns
returns c =
    c.response_check.ensures
    ∙ sym (laws.invariant_else _ _ _ _ c.if-kind-eq0.false c.if-kind-eq1.false c.if-kind-eq2.false)
