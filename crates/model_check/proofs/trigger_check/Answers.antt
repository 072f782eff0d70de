use mathlib.Core.Path.{sym, ◌∙◌}
use borrow.Author.Tests.{eq-eqb, ne_eqb}
use Rattle.model_check.proofs.Laws as laws
use Rattle.model_check.proofs.trigger_check.Goals as goal

pub returns-in_default : goal.returns-in_default
returns-in_default c =
    sym (laws.trigger_is _ _ _ _ ∙ laws.by_broken _ _ _ _ _ c.u16_at.ensures
    c.in_default.is)

pub returns-in_default-u16_at : goal.returns-in_default-u16_at
returns-in_default-u16_at c =
    sym (laws.trigger_is _ _ _ _ ∙ laws.by_is _ _ _ _ _ c.u16_at.ensures c.in-Some.is
    ∙ laws.by_broken _ _ _ _ _ c.u16_at-2.ensures c.in_default-u16_at.is)

pub returns-in_default-u16_at-2 : goal.returns-in_default-u16_at-2
returns-in_default-u16_at-2 c =
    sym (laws.trigger_is _ _ _ _ ∙ laws.by_is _ _ _ _ _ c.u16_at.ensures c.in-Some.is
    ∙ laws.by_is _ _ _ _ _ c.u16_at-2.ensures c.in-Some-u16_at.is
    ∙ laws.by_broken _ _ _ _ _ c.u16_at-3.ensures c.in_default-u16_at-2.is)

pub returns-in_default-a : goal.returns-in_default-a
returns-in_default-a c =
    sym (laws.trigger_is _ _ _ _ ∙ laws.by_is _ _ _ _ _ c.u16_at.ensures c.in-Some.is
    ∙ laws.by_is _ _ _ _ _ c.u16_at-2.ensures c.in-Some-u16_at.is
    ∙ laws.by_is _ _ _ _ _ c.u16_at-3.ensures c.in-Some-u16_at-2.is
    ∙ laws.refused _ _ _ _ _ c.skip-a.ensures c.in_default-a.is)

pub returns-in_default-u16_at-3 : goal.returns-in_default-u16_at-3
returns-in_default-u16_at-3 c =
    sym (laws.trigger_is _ _ _ _ ∙ laws.by_is _ _ _ _ _ c.u16_at.ensures c.in-Some.is
    ∙ laws.by_is _ _ _ _ _ c.u16_at-2.ensures c.in-Some-u16_at.is
    ∙ laws.by_is _ _ _ _ _ c.u16_at-3.ensures c.in-Some-u16_at-2.is
    ∙ laws.to _ _ _ _ _ c.skip-a.ensures c.in-To.is
    ∙ laws.by_broken _ _ _ _ _ c.u16_at-4.ensures c.in_default-u16_at-3.is)

pub returns-then-note-eq-NO_PLACE : goal.returns-then-note-eq-NO_PLACE
returns-then-note-eq-NO_PLACE c =
    c.trigger_of_check.ensures ∙ sym (laws.trigger_is _ _ _ _
    ∙ laws.by_is _ _ _ _ _ c.u16_at.ensures c.in-Some.is
    ∙ laws.by_is _ _ _ _ _ c.u16_at-2.ensures c.in-Some-u16_at.is
    ∙ laws.by_is _ _ _ _ _ c.u16_at-3.ensures c.in-Some-u16_at-2.is
    ∙ laws.to _ _ _ _ _ c.skip-a.ensures c.in-To.is
    ∙ laws.by_is _ _ _ _ _ c.u16_at-4.ensures c.in-Some-u16_at-3.is
    ∙ laws.yes_check _ _ _ _ _ (eq-eqb _ _ c.if-note-eq-NO_PLACE.true))

pub returns : goal.returns
returns c =
    sym (laws.trigger_is _ _ _ _ ∙ laws.by_is _ _ _ _ _ c.u16_at.ensures c.in-Some.is
    ∙ laws.by_is _ _ _ _ _ c.u16_at-2.ensures c.in-Some-u16_at.is
    ∙ laws.by_is _ _ _ _ _ c.u16_at-3.ensures c.in-Some-u16_at-2.is
    ∙ laws.to _ _ _ _ _ c.skip-a.ensures c.in-To.is
    ∙ laws.by_is _ _ _ _ _ c.u16_at-4.ensures c.in-Some-u16_at-3.is
    ∙ laws.no_check _ _ _ _ _ (ne_eqb _ _ c.if-note-eq-NO_PLACE.false) ∙ laws.stayed _ _ _)
