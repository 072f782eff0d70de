use mathlib.Core.Path.{sym, ◌∙◌}
use Rattle.engine_table.proofs.Laws as laws
use Rattle.engine_table.proofs.fixed_word.Goals as goal

pub returns-then-k-eq-ON : goal.returns-then-k-eq-ON
returns-then-k-eq-ON c = c.place_of.ensures ∙ sym (laws.fixed_4 _ _ _ c.if-k-eq-ON.true)

pub returns-then-k-eq-OFF : goal.returns-then-k-eq-OFF
returns-then-k-eq-OFF c = c.place_of-then-k-eq-OFF.ensures ∙ sym (laws.fixed_5 _ _ _ c.if-k-eq-OFF.true)

pub returns-then-k-eq-UNKNOWN : goal.returns-then-k-eq-UNKNOWN
returns-then-k-eq-UNKNOWN c = c.place_of-then-k-eq-UNKNOWN.ensures ∙ sym (laws.fixed_6 _ _ _ c.if-k-eq-UNKNOWN.true)

pub returns : goal.returns
returns c = c.place_of-2.ensures ∙ sym (laws.fixed_else _ _ _ c.if-k-eq-ON.false c.if-k-eq-OFF.false c.if-k-eq-UNKNOWN.false)
