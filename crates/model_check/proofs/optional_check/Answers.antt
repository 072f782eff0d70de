use mathlib.Core.Path.{sym, ◌∙◌}
use Rattle.model_check.proofs.Laws as laws
use Rattle.model_check.proofs.optional_check.Goals as goal

pub returns-then-value-eq-NO_PLACE : goal.returns-then-value-eq-NO_PLACE
returns-then-value-eq-NO_PLACE c = sym (laws.optional_none _ _ _ _ _ _ c.if-value-eq-NO_PLACE.true)

pub returns : goal.returns
returns c = c.value_check.ensures ∙ sym (laws.optional_some _ _ _ _ _ _ c.if-value-eq-NO_PLACE.false)
