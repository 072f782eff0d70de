use mathlib.Core.Path.{sym, ◌∙◌}
use Rattle.model_sections.proofs.Laws as laws
use Rattle.model_sections.proofs.part_check.Goals as goal

pub returns-in-Entity : goal.returns-in-Entity
returns-in-Entity c = c.entity_check.ensures ∙ sym (laws.part_entity _ _ _ _ _ _ c.in-Entity.is)

pub returns-in-Event : goal.returns-in-Event
returns-in-Event c = c.event_check.ensures ∙ sym (laws.part_event _ _ _ _ _ _ c.in-Event.is)

pub returns-in-Input : goal.returns-in-Input
returns-in-Input c = c.input_check.ensures ∙ sym (laws.part_input _ _ _ _ _ _ c.in-Input.is)

pub returns-in-Invariant : goal.returns-in-Invariant
returns-in-Invariant c = c.invariant_check.ensures ∙ sym (laws.part_invariant _ _ _ _ _ _ c.in-Invariant.is)

pub returns-in-Rule : goal.returns-in-Rule
returns-in-Rule c = c.rule_check.ensures ∙ sym (laws.part_rule _ _ _ _ _ _ c.in-Rule.is)
