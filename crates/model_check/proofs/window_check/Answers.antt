use mathlib.Core.Path.{sym, ◌∙◌}
use Rattle.model_check.proofs.Laws as laws
use Rattle.model_check.proofs.window_check.Goals as goal

pub returns-in_default : goal.returns-in_default
returns-in_default c =
    sym (laws.window_is _ _ _
    ∙ laws.by_broken _ _ _ _ _ c.u8_at.ensures c.in_default.is)

pub returns-in_default-u32_at : goal.returns-in_default-u32_at
returns-in_default-u32_at c =
    sym (laws.window_is _ _ _ ∙ laws.by_is _ _ _ _ _ c.u8_at.ensures c.in-Some.is
    ∙ laws.by_broken _ _ _ _ _ c.u32_at.ensures c.in_default-u32_at.is)

pub returns-in_default-u32_at-2 : goal.returns-in_default-u32_at-2
returns-in_default-u32_at-2 c =
    sym (laws.window_is _ _ _ ∙ laws.by_is _ _ _ _ _ c.u8_at.ensures c.in-Some.is
    ∙ laws.by_is _ _ _ _ _ c.u32_at.ensures c.in-Some-u32_at.is
    ∙ laws.by_broken _ _ _ _ _ c.u32_at-2.ensures c.in_default-u32_at-2.is)

pub returns-then-window_bad : goal.returns-then-window_bad
returns-then-window_bad c =
    sym (laws.window_is _ _ _ ∙ laws.by_is _ _ _ _ _ c.u8_at.ensures c.in-Some.is
    ∙ laws.by_is _ _ _ _ _ c.u32_at.ensures c.in-Some-u32_at.is
    ∙ laws.by_is _ _ _ _ _ c.u32_at-2.ensures c.in-Some-u32_at-2.is
    ∙ laws.refuse_yes _ _ _ _ (sym c.window_bad.ensures ∙ c.if-window_bad.true))

pub returns : goal.returns
returns c =
    sym (laws.window_is _ _ _ ∙ laws.by_is _ _ _ _ _ c.u8_at.ensures c.in-Some.is
    ∙ laws.by_is _ _ _ _ _ c.u32_at.ensures c.in-Some-u32_at.is
    ∙ laws.by_is _ _ _ _ _ c.u32_at-2.ensures c.in-Some-u32_at-2.is
    ∙ laws.refuse_no _ _ _ _ (sym c.window_bad.ensures ∙ c.if-window_bad.false))
