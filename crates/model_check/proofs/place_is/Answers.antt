use mathlib.Core.Path.{sym}
use Rattle.model_check.proofs.Laws as laws
use Rattle.model_check.proofs.place_is.Goals as goal

pub returns-in_default : goal.returns-in_default
returns-in_default c = sym (laws.place_broken _ _ _ c.u16_at.ensures c.in_default.is)

pub returns : goal.returns
returns c = sym (laws.place_got _ _ _ c.u16_at.ensures c.in-Some.is)
