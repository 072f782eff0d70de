use mathlib.Core.Path.{sym, ◌∙◌}
use Rattle.model_check.proofs.Laws as laws
use Rattle.model_check.proofs.value_check.Goals as goal

pub returns : goal.returns
returns c = c.entity_value_check.ensures ∙ sym (laws.value_is _ _ _ _ _ _ _ c.first_of-i.ensures.0)
