use mathlib.Core.Path.{sym, ◌∙◌}
use Rattle.engine_inputs.proofs.Laws as laws
use Rattle.engine_inputs.proofs.event_part.Goals as goal

pub returns-then-j-eq0 : goal.returns-then-j-eq0
returns-then-j-eq0 c = c.four_at.ensures ∙ sym (laws.part_second _ _ _ c.if-j-eq0.true)

pub returns : goal.returns
returns c = c.input_part.ensures ∙ sym (laws.part_input _ _ _ c.if-j-eq0.false)
