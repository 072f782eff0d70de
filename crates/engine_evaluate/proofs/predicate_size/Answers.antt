use mathlib.Core.Path.{◌∙◌}
use Rattle.engine_evaluate.proofs.Laws as laws
use Rattle.engine_evaluate.proofs.predicate_size.Goals as goal

pub returns : goal.returns
returns c = c.predicate_size.ensures ∙ laws.size_is _ _ _ c.byte_at.ensures.0
