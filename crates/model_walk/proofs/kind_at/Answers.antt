use mathlib.Core.Path.{sym, ◌∙◌}
use Rattle.model_walk.proofs.Laws as laws
use Rattle.model_walk.proofs.kind_at.Goals as goal

pub returns-in_err-k : goal.returns-in_err-k
returns-in_err-k c = c.from_residual.ensures ∙ sym (laws.by_broken _ _ _ _ _ c.u8_at.ensures c.in_err-k.was)

pub returns : goal.returns
returns c = c.then_some.ensures ∙ laws.staying_is _ _ _ _ ∙ sym (laws.by_is _ _ _ _ _ c.u8_at.ensures c.in_ok-k.was)
