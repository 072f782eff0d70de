use mathlib.Core.Path.{sym, ◌∙◌}
use Rattle.model_check.proofs.Laws as checks
use Rattle.model_validate.proofs.Laws as laws
use Rattle.model_validate.proofs.sections_check.Goals as goal

pub returns-in_default : goal.returns-in_default
returns-in_default c =
    sym (laws.sections_are _ _ _ _ _ _ _ _ _ ∙ checks.refused _ _ _ _ _ c.section_check-a.ensures
    c.in_default.is)

pub returns-in_default-b : goal.returns-in_default-b
returns-in_default-b c =
    sym (laws.sections_are _ _ _ _ _ _ _ _ _ ∙ checks.to _ _ _ _ _ c.section_check-a.ensures c.in-To.is
    ∙ checks.refused _ _ _ _ _ c.section_check-b.ensures c.in_default-b.is)

pub returns-in_default-e : goal.returns-in_default-e
returns-in_default-e c =
    sym (laws.sections_are _ _ _ _ _ _ _ _ _ ∙ checks.to _ _ _ _ _ c.section_check-a.ensures c.in-To.is
    ∙ checks.to _ _ _ _ _ c.section_check-b.ensures c.in-To-b.is
    ∙ checks.refused _ _ _ _ _ c.section_check-e.ensures c.in_default-e.is)

pub returns-in_default-f : goal.returns-in_default-f
returns-in_default-f c =
    sym (laws.sections_are _ _ _ _ _ _ _ _ _ ∙ checks.to _ _ _ _ _ c.section_check-a.ensures c.in-To.is
    ∙ checks.to _ _ _ _ _ c.section_check-b.ensures c.in-To-b.is
    ∙ checks.to _ _ _ _ _ c.section_check-e.ensures c.in-To-e.is
    ∙ checks.refused _ _ _ _ _ c.orders_check-f.ensures c.in_default-f.is)

pub returns-in_default-g : goal.returns-in_default-g
returns-in_default-g c =
    sym (laws.sections_are _ _ _ _ _ _ _ _ _ ∙ checks.to _ _ _ _ _ c.section_check-a.ensures c.in-To.is
    ∙ checks.to _ _ _ _ _ c.section_check-b.ensures c.in-To-b.is
    ∙ checks.to _ _ _ _ _ c.section_check-e.ensures c.in-To-e.is
    ∙ checks.to _ _ _ _ _ c.orders_check-f.ensures c.in-To-f.is
    ∙ checks.refused _ _ _ _ _ c.section_check-g.ensures c.in_default-g.is)

pub section_check-requires : goal.section_check-requires
section_check-requires c = (c.requires.entities, c.requires.rules)

pub returns : goal.returns
returns c =
    c.section_check.ensures ∙ sym (laws.sections_are _ _ _ _ _ _ _ _ _
    ∙ checks.to _ _ _ _ _ c.section_check-a.ensures c.in-To.is
    ∙ checks.to _ _ _ _ _ c.section_check-b.ensures c.in-To-b.is
    ∙ checks.to _ _ _ _ _ c.section_check-e.ensures c.in-To-e.is
    ∙ checks.to _ _ _ _ _ c.orders_check-f.ensures c.in-To-f.is
    ∙ checks.to _ _ _ _ _ c.section_check-g.ensures c.in-To-g.is)
