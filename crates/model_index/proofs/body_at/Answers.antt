use mathlib.Core.Path.{sym, ◌∙◌}
use Rattle.model_index.proofs.Laws as laws
use Rattle.model_index.proofs.body_at.Goals as goal

pub returns-in_default : goal.returns-in_default
returns-in_default c =
    λ t. laws.file_refusal _ t _ _ _ _ _ _ c.refusal.ensures
    ∙ sym (laws.body_is _ _ _ _ ∙ laws.on_broken _ _ c.place_at.ensures c.in_default.is)

pub returns-in_default-ascending_at : goal.returns-in_default-ascending_at
returns-in_default-ascending_at c =
    λ t. laws.file_refusal _ t _ _ _ _ _ _ c.refusal-in_default-ascending_at.ensures
    ∙ sym (laws.body_is _ _ _ _ ∙ laws.on_to _ _ c.place_at.ensures c.in-Some.is
    ∙ laws.on_broken _ _ c.ascending_at.ensures c.in_default-ascending_at.is)

pub section_into-x-requires : goal.section_into-x-requires
section_into-x-requires c = c.requires.0.first

pub section_into-y-requires : goal.section_into-y-requires
section_into-y-requires c = c.requires.0.second

pub returns-in_default-end : goal.returns-in_default-end
returns-in_default-end c =
    λ t. laws.file_refusal _ t _ _ _ _ _ _ c.refusal-in_default-end.ensures
    ∙ sym (laws.body_is _ _ _ _ ∙ laws.on_to _ _ c.place_at.ensures c.in-Some.is
    ∙ laws.on_to _ _ c.ascending_at.ensures c.in-Some-ascending_at.is ∙ laws.given_is _ _ c.section_into-x.ensures
    ∙ laws.sec_broken _ _ c.section_into-y.ensures c.in_default-end.is)

pub section_into-z-requires : goal.section_into-z-requires
section_into-z-requires c = c.requires.0.third

pub returns-in_default-end-2 : goal.returns-in_default-end-2
returns-in_default-end-2 c =
    λ t. laws.file_refusal _ t _ _ _ _ _ _ c.refusal-in_default-end-2.ensures
    ∙ sym (laws.body_is _ _ _ _ ∙ laws.on_to _ _ c.place_at.ensures c.in-Some.is
    ∙ laws.on_to _ _ c.ascending_at.ensures c.in-Some-ascending_at.is ∙ laws.given_is _ _ c.section_into-x.ensures
    ∙ laws.sec_to _ _ c.section_into-y.ensures c.in-Some-end.is
    ∙ laws.sec_broken _ _ c.section_into-z.ensures c.in_default-end-2.is)

pub rest_at-requires : goal.rest_at-requires
rest_at-requires c = c.requires.1

pub returns : goal.returns
returns c =
    λ t. c.rest_at.ensures t _ _ _ ∙ sym (laws.body_is _ _ _ _ ∙ laws.on_to _ _ c.place_at.ensures c.in-Some.is
    ∙ laws.on_to _ _ c.ascending_at.ensures c.in-Some-ascending_at.is ∙ laws.given_is _ _ c.section_into-x.ensures
    ∙ laws.sec_to _ _ c.section_into-y.ensures c.in-Some-end.is
    ∙ laws.sec_to _ _ c.section_into-z.ensures c.in-Some-end-2.is)
