use mathlib.Core.Path.{sym, ◌∙◌}
use Rattle.model_sections.proofs.Laws as laws
use Rattle.model_sections.proofs.rule_check.Goals as goal

pub returns-in_default : goal.returns-in_default
returns-in_default c = sym (laws.rule_none _ _ _ _ _ _ c.u16_at.ensures c.in_default.is)

pub returns-then-bad_id : goal.returns-then-bad_id
returns-then-bad_id c =
    sym (laws.rule_13 _ _ _ _ _ _ c.u16_at.ensures c.in-Some.is
    (sym c.bad_id.ensures ∙ c.if-bad_id.true))

pub returns : goal.returns
returns c =
    c.rule_of_check.ensures
    ∙ sym (laws.rule_is _ _ _ _ _ _ c.u16_at.ensures c.in-Some.is
    (sym c.bad_id.ensures ∙ c.if-bad_id.false))
