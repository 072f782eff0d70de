use mathlib.Core.Path.{sym, ◌∙◌}
use Rattle.model_validate.proofs.Laws as laws
use Rattle.model_validate.proofs.limits_bad.Goals as goal

pub returns-in_default : goal.returns-in_default
returns-in_default c = sym (laws.limits_broken _ _ (laws.no_horizon _ _ c.u32_at.ensures c.in_default.is))

pub returns-in_default-u32_at : goal.returns-in_default-u32_at
returns-in_default-u32_at c =
    sym (laws.limits_broken _ _ (laws.no_steps _ _ c.u32_at.ensures c.in-Some.is
    c.u32_at-2.ensures c.in_default-u32_at.is))

pub returns-in_default-u32_at-2 : goal.returns-in_default-u32_at-2
returns-in_default-u32_at-2 c =
    sym (laws.limits_broken _ _ (laws.no_depth _ _ c.u32_at.ensures c.in-Some.is c.u32_at-2.ensures
    c.in-Some-u32_at.is c.u32_at-3.ensures c.in_default-u32_at-2.is))

pub returns-in_default-u32_at-3 : goal.returns-in_default-u32_at-3
returns-in_default-u32_at-3 c =
    sym (laws.limits_broken _ _ (laws.no_cases _ _ c.u32_at.ensures c.in-Some.is c.u32_at-2.ensures
    c.in-Some-u32_at.is c.u32_at-3.ensures c.in-Some-u32_at-2.is c.u32_at-4.ensures
    c.in_default-u32_at-3.is))

pub returns : goal.returns
returns c =
    c.numbers_bad.ensures
    ∙ sym (laws.limits_read _ _ (laws.all_limits _ _ c.u32_at.ensures c.in-Some.is c.u32_at-2.ensures
    c.in-Some-u32_at.is c.u32_at-3.ensures c.in-Some-u32_at-2.is c.u32_at-4.ensures
    c.in-Some-u32_at-3.is))
