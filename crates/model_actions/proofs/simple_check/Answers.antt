use mathlib.Core.Path.{sym, ◌∙◌}
use Rattle.model_actions.proofs.Laws as laws
use Rattle.model_actions.proofs.simple_check.Goals as goal

pub returns-then-kind-eq0 : goal.returns-then-kind-eq0
returns-then-kind-eq0 c = c.pair_check.ensures ∙ sym (laws.simple_0 _ _ _ _ c.if-kind-eq0.true)

pub returns-then-kind-eq1 : goal.returns-then-kind-eq1
returns-then-kind-eq1 c = c.toggle_check.ensures ∙ sym (laws.simple_1 _ _ _ _ c.if-kind-eq1.true)

pub returns-then-kind-eq2 : goal.returns-then-kind-eq2
returns-then-kind-eq2 c = c.day_check.ensures ∙ sym (laws.simple_2 _ _ _ _ c.if-kind-eq2.true)

pub returns-then-kind-eq3 : goal.returns-then-kind-eq3
returns-then-kind-eq3 c = c.predicate_check.ensures ∙ sym (laws.simple_3 _ _ _ _ c.if-kind-eq3.true)

pub returns-then-kind-eq5 : goal.returns-then-kind-eq5
returns-then-kind-eq5 c = c.wait_check.ensures ∙ sym (laws.simple_5 _ _ _ _ c.if-kind-eq5.true)

pub returns : goal.returns
returns c =
    c.skip.ensures
    ∙ sym (laws.simple_else _ _ _ _ c.if-kind-eq0.false c.if-kind-eq1.false c.if-kind-eq2.false c.if-kind-eq3.false
    c.if-kind-eq5.false)
