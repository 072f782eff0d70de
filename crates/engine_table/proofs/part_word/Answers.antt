use mathlib.Core.Path.{sym, ◌∙◌}
use Rattle.engine_table.proofs.Laws as laws
use Rattle.engine_table.proofs.part_word.Goals as goal

pub returns-then-k-lt-ENTITY_STALE : goal.returns-then-k-lt-ENTITY_STALE
returns-then-k-lt-ENTITY_STALE c =
    c.two_at.ensures.0
    ∙ sym (laws.part_name _ _ _ _ _ c.if-k-lt-ENTITY_STALE.true c.capped-p.ensures)

pub returns-then-k-lt-AUTOMATIONS : goal.returns-then-k-lt-AUTOMATIONS
returns-then-k-lt-AUTOMATIONS c = c.stale_at.ensures ∙ sym (laws.part_stale _ _ _ _ _ c.if-k-lt-ENTITY_STALE.false c.if-k-lt-AUTOMATIONS.true c.capped-q.ensures)

pub returns : goal.returns
returns c = c.rule_word.ensures ∙ sym (laws.part_rule _ _ _ _ _ c.if-k-lt-ENTITY_STALE.false c.if-k-lt-AUTOMATIONS.false c.capped-t.ensures)
