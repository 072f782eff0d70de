use mathlib.Core.Path.{sym, ◌∙◌}
use Rattle.model_sections.proofs.Laws as laws
use Rattle.model_sections.proofs.invariant_check.Goals as goal

pub returns-in_default : goal.returns-in_default
returns-in_default c = sym (laws.invariant_none _ _ _ _ _ _ c.u8_at.ensures c.in_default.is)

pub returns-in_default-u16_at : goal.returns-in_default-u16_at
returns-in_default-u16_at c =
    sym (laws.invariant_no_id _ _ _ _ _ _ c.u8_at.ensures c.in-Some.is c.u16_at.ensures
    c.in_default-u16_at.is)

pub returns-then-bad_id : goal.returns-then-bad_id
returns-then-bad_id c =
    sym (laws.invariant_10 _ _ _ _ _ _ c.u8_at.ensures c.in-Some.is c.u16_at.ensures c.in-Some-u16_at.is
    (sym c.bad_id.ensures ∙ c.if-bad_id.true))

pub returns : goal.returns
returns c =
    c.invariant_of_check.ensures
    ∙ sym (laws.invariant_is _ _ _ _ _ _ c.u8_at.ensures c.in-Some.is c.u16_at.ensures c.in-Some-u16_at.is
    (sym c.bad_id.ensures ∙ c.if-bad_id.false))
