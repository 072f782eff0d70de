use mathlib.Core.Path.{sym, ◌∙◌}
use Rattle.model_check.proofs.Laws as laws
use Rattle.model_check.proofs.listed_at.Goals as goal

pub returns-in_default : goal.returns-in_default
returns-in_default c = sym (laws.listed_broken _ _ _ c.u16_at.ensures c.in_default.is)

pub returns : goal.returns
returns c = c.among.ensures ∙ sym (laws.listed_got _ _ _ c.u16_at.ensures c.in-Some.is)
