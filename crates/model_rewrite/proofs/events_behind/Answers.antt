use Rattle.model_parts.specs.declared.Section.{Section}
use mathlib.Core.Path.{sym, ◌∙◌, ap}
use Rattle.model_rewrite.proofs.Laws as laws
use Rattle.model_rewrite.proofs.events_behind.Goals as goal

pub returns-in_default : goal.returns-in_default
returns-in_default c =
    c.no_span.ensures
    ∙ sym (laws.body_is _ _ _ ∙ laws.behind_broken _ _ c.place_at.ensures c.in_default.is)

pub returns-in_default-end : goal.returns-in_default-end
returns-in_default-end c =
    c.no_span-in_default-end.ensures ∙ sym (laws.body_is _ _ _ ∙ laws.behind_to _ _ c.place_at.ensures c.in-Some.is
    ∙ laws.behind_broken _ _ (ap (λ (x : Section). x.end) c.section_at-entities.ensures) c.in_default-end.is)

pub returns-in_default-end-2 : goal.returns-in_default-end-2
returns-in_default-end-2 c =
    c.no_span-in_default-end-2.ensures ∙ sym (laws.body_is _ _ _ ∙ laws.behind_to _ _ c.place_at.ensures c.in-Some.is
    ∙ laws.behind_to _ _ (ap (λ (x : Section). x.end) c.section_at-entities.ensures) c.in-Some-end.is
    ∙ laws.behind_broken _ _ (ap (λ (x : Section). x.end) c.section_at-events.ensures)
    c.in_default-end-2.is)

pub returns : goal.returns
returns c =
    sym (laws.body_is _ _ _ ∙ laws.behind_to _ _ c.place_at.ensures c.in-Some.is
    ∙ laws.behind_to _ _ (ap (λ (x : Section). x.end) c.section_at-entities.ensures) c.in-Some-end.is
    ∙ laws.behind_to _ _ (ap (λ (x : Section). x.end) c.section_at-events.ensures) c.in-Some-end-2.is)
