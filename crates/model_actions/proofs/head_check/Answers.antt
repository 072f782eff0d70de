use mathlib.Core.Path.{sym, ◌∙◌}
use Rattle.model_actions.proofs.Laws as laws
use Rattle.model_actions.proofs.head_check.Goals as goal

pub returns-then-n-lt512 : goal.returns-then-n-lt512
returns-then-n-lt512 c = c.skip.ensures ∙ sym (laws.count_in _ _ _ _ c.if-n-lt512.true)

pub returns : goal.returns
returns c = sym (laws.count_out _ _ _ _ c.if-n-lt512.false)
