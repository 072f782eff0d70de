use mathlib.Core.Path.{sym}
use Rattle.model_order.proofs.Laws as laws
use Rattle.model_order.proofs.place_before.Goals as goal

pub returns-in_default : goal.returns-in_default
returns-in_default c = sym (laws.place_none _ _ _ c.u16_at.ensures c.in_default.is)

pub returns-in_default-u16_at : goal.returns-in_default-u16_at
returns-in_default-u16_at c =
    sym (laws.place_none₂ _ _ _ c.u16_at.ensures c.in-Some.is c.u16_at-2.ensures
    c.in_default-u16_at.is)

pub returns : goal.returns
returns c = sym (laws.place_both _ _ _ c.u16_at.ensures c.in-Some.is c.u16_at-2.ensures c.in-Some-u16_at.is)
