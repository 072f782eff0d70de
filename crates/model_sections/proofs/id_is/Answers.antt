use mathlib.Core.Path.{sym, ◌∙◌}
use Rattle.model_sections.proofs.Laws as laws
use Rattle.model_sections.proofs.id_is.Goals as goal

pub returns-in_default : goal.returns-in_default
returns-in_default c =
    sym (laws.id_broken _ _ _ c.in-Invariant.is c.u8_at.ensures
    c.in_default.is)

pub returns-in-Some : goal.returns-in-Some
returns-in-Some c =
    c.place_is.ensures
    ∙ sym (laws.id_behind _ _ _ c.in-Invariant.is c.u8_at.ensures c.in-Some.is)

pub returns-in-Entity : goal.returns-in-Entity
returns-in-Entity c = c.place_is-in-Entity.ensures ∙ sym (laws.id_entity _ _ _ c.in-Entity.is)

pub returns-in-Event : goal.returns-in-Event
returns-in-Event c = c.place_is-in-Event.ensures ∙ sym (laws.id_event _ _ _ c.in-Event.is)

pub returns-in-Input : goal.returns-in-Input
returns-in-Input c = c.place_is-in-Input.ensures ∙ sym (laws.id_input _ _ _ c.in-Input.is)

pub returns-in-Rule : goal.returns-in-Rule
returns-in-Rule c = c.place_is-in-Rule.ensures ∙ sym (laws.id_rule _ _ _ c.in-Rule.is)
