use mathlib.Core.Path.{sym, ◌∙◌}
use Rattle.model_check.proofs.Laws as laws
use Rattle.model_check.proofs.pair_check.Goals as goal

pub returns-in_default : goal.returns-in_default
returns-in_default c =
    sym (laws.pair_is _ _ _ _ ∙ laws.by_broken _ _ _ _ _ c.u16_at.ensures
    c.in_default.is)

pub returns-in_default-u16_at : goal.returns-in_default-u16_at
returns-in_default-u16_at c =
    sym (laws.pair_is _ _ _ _ ∙ laws.by_is _ _ _ _ _ c.u16_at.ensures c.in-Some.is
    ∙ laws.by_broken _ _ _ _ _ c.u16_at-2.ensures c.in_default-u16_at.is)

pub returns : goal.returns
returns c =
    c.value_check.ensures ∙ sym (laws.pair_is _ _ _ _ ∙ laws.by_is _ _ _ _ _ c.u16_at.ensures c.in-Some.is
    ∙ laws.by_is _ _ _ _ _ c.u16_at-2.ensures c.in-Some-u16_at.is)
