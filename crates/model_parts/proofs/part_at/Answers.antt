use mathlib.Core.Path.{sym, ◌∙◌}
use Rattle.model_parts.proofs.Laws as laws
use Rattle.model_parts.proofs.part_at.Goals as goal

pub returns-in-Text : goal.returns-in-Text
returns-in-Text c = c.text_at.ensures ∙ sym (laws.part_text _ _ _ _ c.in-Text.is)

pub returns-in-Entity : goal.returns-in-Entity
returns-in-Entity c = c.entity_at.ensures ∙ sym (laws.part_entity _ _ _ _ c.in-Entity.is)

pub returns-in-Event : goal.returns-in-Event
returns-in-Event c = c.event_at.ensures ∙ sym (laws.part_event _ _ _ _ c.in-Event.is)

pub returns-in-Invariant : goal.returns-in-Invariant
returns-in-Invariant c = c.invariant_at.ensures ∙ sym (laws.part_invariant _ _ _ _ c.in-Invariant.is)

pub returns-in-Input : goal.returns-in-Input
returns-in-Input c = c.input_at.ensures ∙ sym (laws.part_action _ _ _ _ c.in-Input.is)

pub returns-in-Gap : goal.returns-in-Gap
returns-in-Gap c = c.bytes_at.ensures ∙ sym (laws.part_gap _ _ _ _ c.in-Gap.is)

pub returns-in-Rule : goal.returns-in-Rule
returns-in-Rule c = c.rule_at.ensures ∙ sym (laws.part_rule _ _ _ _ c.in-Rule.is)
