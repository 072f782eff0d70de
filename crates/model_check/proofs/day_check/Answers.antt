use mathlib.Core.Path.{sym, ◌∙◌}
use borrow.Author.Tests.{lt-ltb, le-ltb}
use Rattle.model_check.proofs.Laws as laws
use Rattle.model_check.proofs.day_check.Goals as goal

pub returns-in_default : goal.returns-in_default
returns-in_default c = sym (laws.by_broken _ _ _ _ _ c.u32_at.ensures c.in_default.is)

pub returns-then-seconds-gt86400 : goal.returns-then-seconds-gt86400
returns-then-seconds-gt86400 c =
    sym (laws.by_is _ _ _ _ _ c.u32_at.ensures c.in-Some.is
    ∙ laws.refuse_yes _ _ _ _ (lt-ltb _ _ c.if-seconds-gt86400.true))

pub returns : goal.returns
returns c =
    sym (laws.by_is _ _ _ _ _ c.u32_at.ensures c.in-Some.is
    ∙ laws.refuse_no _ _ _ _ (le-ltb _ _ c.if-seconds-gt86400.false))
