use mathlib.Core.Path.{refl, sym, ◌∙◌}
use Rattle.model_index.proofs.Laws as laws
use Rattle.model_index.proofs.rest_at.Goals as goal

pub returns-in_default : goal.returns-in_default
returns-in_default c =
    λ t e v i. laws.file_refusal _ t e v i _ _ _ c.refusal.ensures ∙ sym (laws.rest_is _ _ _ _ _
    ∙ laws.sec_broken _ _ c.section_into-a.ensures c.in_default.is)

pub returns-in_default-end : goal.returns-in_default-end
returns-in_default-end c =
    λ t e v i. laws.file_refusal _ t e v i _ _ _ c.refusal-in_default-end.ensures ∙ sym (laws.rest_is _ _ _ _ _
    ∙ laws.sec_to _ _ c.section_into-a.ensures c.in-Some.is
    ∙ laws.sec_broken _ _ c.section_into-b.ensures c.in_default-end.is)

pub returns-in_default-bytes_at : goal.returns-in_default-bytes_at
returns-in_default-bytes_at c =
    λ t e v i. laws.file_refusal _ t e v i _ _ _ c.refusal-in_default-bytes_at.ensures ∙ sym (laws.rest_is _ _ _ _ _
    ∙ laws.sec_to _ _ c.section_into-a.ensures c.in-Some.is
    ∙ laws.sec_to _ _ c.section_into-b.ensures c.in-Some-end.is
    ∙ laws.on_broken _ _ c.bytes_at.ensures c.in_default-bytes_at.is)

pub returns-in_default-end-2 : goal.returns-in_default-end-2
returns-in_default-end-2 c =
    λ t e v i. laws.file_refusal _ t e v i _ _ _ c.refusal-in_default-end-2.ensures ∙ sym (laws.rest_is _ _ _ _ _
    ∙ laws.sec_to _ _ c.section_into-a.ensures c.in-Some.is
    ∙ laws.sec_to _ _ c.section_into-b.ensures c.in-Some-end.is
    ∙ laws.on_to _ _ c.bytes_at.ensures c.in-Some-bytes_at.is
    ∙ laws.sec_broken _ _ c.section_into-d.ensures c.in_default-end-2.is)

pub returns-in_default-bytes_or_end_at : goal.returns-in_default-bytes_or_end_at
returns-in_default-bytes_or_end_at c =
    λ t e v i. laws.file_refusal _ t e v i _ _ _ c.refusal-in_default-bytes_or_end_at.ensures ∙ sym (laws.rest_is _ _ _ _ _
    ∙ laws.sec_to _ _ c.section_into-a.ensures c.in-Some.is
    ∙ laws.sec_to _ _ c.section_into-b.ensures c.in-Some-end.is
    ∙ laws.on_to _ _ c.bytes_at.ensures c.in-Some-bytes_at.is
    ∙ laws.sec_to _ _ c.section_into-d.ensures c.in-Some-end-2.is
    ∙ laws.on_broken _ _ c.bytes_or_end_at.ensures c.in_default-bytes_or_end_at.is)

pub returns-then-n8-gt64 : goal.returns-then-n8-gt64
returns-then-n8-gt64 c =
    λ t e v i. laws.file_refusal _ t e v i _ _ _ c.refusal-then-n8-gt64.ensures ∙ sym (laws.rest_is _ _ _ _ _
    ∙ laws.sec_to _ _ c.section_into-a.ensures c.in-Some.is
    ∙ laws.sec_to _ _ c.section_into-b.ensures c.in-Some-end.is
    ∙ laws.on_to _ _ c.bytes_at.ensures c.in-Some-bytes_at.is
    ∙ laws.sec_to _ _ c.section_into-d.ensures c.in-Some-end-2.is
    ∙ laws.on_to _ _ c.bytes_or_end_at.ensures c.in-Some-bytes_or_end_at.is
    ∙ laws.too_many _ _ _ _ c.if-n8-gt64.true)

pub returns-then-p8-s : goal.returns-then-p8-s
returns-then-p8-s c =
    λ t e v i. laws.file_refusal _ t e v i _ _ _ c.refusal-then-p8-s.ensures ∙ sym (laws.rest_is _ _ _ _ _
    ∙ laws.sec_to _ _ c.section_into-a.ensures c.in-Some.is
    ∙ laws.sec_to _ _ c.section_into-b.ensures c.in-Some-end.is
    ∙ laws.on_to _ _ c.bytes_at.ensures c.in-Some-bytes_at.is
    ∙ laws.sec_to _ _ c.section_into-d.ensures c.in-Some-end-2.is
    ∙ laws.on_to _ _ c.bytes_or_end_at.ensures c.in-Some-bytes_or_end_at.is
    ∙ laws.left_over _ _ _ _ c.if-n8-gt64.false c.if-p8-s.true)

pub returns : goal.returns
returns c =
    λ t e v i. laws.file_read _ t e v i _ _ _ refl ∙ sym (laws.rest_is _ _ _ _ _
    ∙ laws.sec_to _ _ c.section_into-a.ensures c.in-Some.is
    ∙ laws.sec_to _ _ c.section_into-b.ensures c.in-Some-end.is
    ∙ laws.on_to _ _ c.bytes_at.ensures c.in-Some-bytes_at.is
    ∙ laws.sec_to _ _ c.section_into-d.ensures c.in-Some-end-2.is
    ∙ laws.on_to _ _ c.bytes_or_end_at.ensures c.in-Some-bytes_or_end_at.is
    ∙ laws.whole _ _ _ _ c.if-n8-gt64.false c.if-p8-s.false)
