use mathlib.Core.Path.{sym, ◌∙◌}
use Rattle.model_validate.proofs.Laws as laws
use Rattle.model_validate.proofs.orders_check.Goals as goal

pub returns-in_default : goal.returns-in_default
returns-in_default c = sym (laws.orders_broken _ _ _ _ _ c.u32_at.ensures c.in_default.is)

pub returns-then-seconds_bad : goal.returns-then-seconds_bad
returns-then-seconds_bad c =
    sym (laws.orders_9 _ _ _ _ _ c.u32_at.ensures c.in-Some.is
    (sym c.seconds_bad.ensures ∙ c.if-seconds_bad.true))

pub returns : goal.returns
returns c =
    sym (laws.orders_right _ _ _ _ _ c.u32_at.ensures c.in-Some.is
    (sym c.seconds_bad.ensures ∙ c.if-seconds_bad.false))
