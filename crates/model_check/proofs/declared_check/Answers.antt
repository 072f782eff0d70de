use mathlib.Core.Path.{sym}
use Rattle.model_check.proofs.Laws as laws
use Rattle.model_check.proofs.declared_check.Goals as goal

pub returns-then-count-i : goal.returns-then-count-i
returns-then-count-i c = sym (laws.declared_no _ _ _ _ _ _ c.first_of-i.ensures.0 c.if-count-i.true)

pub returns : goal.returns
returns c = sym (laws.declared_yes _ _ _ _ _ _ c.first_of-i.ensures.0 c.if-count-i.false)
