use mathlib.Core.Path.{sym}
use Rattle.engine_table.proofs.Laws as laws
use Rattle.engine_table.proofs.count_word.Goals as goal

pub returns-then-k-eq-ENTITY_COUNT : goal.returns-then-k-eq-ENTITY_COUNT
returns-then-k-eq-ENTITY_COUNT c = sym (laws.count_0 _ _ c.if-k-eq-ENTITY_COUNT.true)

pub returns-then-k-eq-AUTOMATION_COUNT : goal.returns-then-k-eq-AUTOMATION_COUNT
returns-then-k-eq-AUTOMATION_COUNT c = sym (laws.count_1 _ _ c.if-k-eq-AUTOMATION_COUNT.true)

pub returns-then-k-eq-EVENT_COUNT : goal.returns-then-k-eq-EVENT_COUNT
returns-then-k-eq-EVENT_COUNT c = sym (laws.count_8 _ _ c.if-k-eq-EVENT_COUNT.true)

pub returns-then-k-eq-TEXT_COUNT : goal.returns-then-k-eq-TEXT_COUNT
returns-then-k-eq-TEXT_COUNT c = sym (laws.count_9 _ _ c.if-k-eq-TEXT_COUNT.true)

pub returns : goal.returns
returns c = sym (laws.count_else _ _ c.if-k-eq-ENTITY_COUNT.false c.if-k-eq-AUTOMATION_COUNT.false c.if-k-eq-EVENT_COUNT.false c.if-k-eq-TEXT_COUNT.false)
