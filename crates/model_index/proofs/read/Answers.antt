use mathlib.Core.Path.{sym, ◌∙◌}
use Rattle.model_index.proofs.Laws as laws
use Rattle.model_index.proofs.Refines.{says}
use Rattle.model_index.proofs.read.Goals as goal

pub returns-then-s-gt32768 : goal.returns-then-s-gt32768
returns-then-s-gt32768 c = says _ (laws.file_refusal _ _ _ _ _ _ _ _ c.refusal.ensures ∙ sym (laws.too_long _ c.if-s-gt32768.true))

pub returns-in_default : goal.returns-in_default
returns-in_default c =
    says _ (laws.file_refusal _ _ _ _ _ _ _ _ c.refusal-in_default.ensures
    ∙ sym (laws.no_version _ c.if-s-gt32768.false c.u32_at.ensures c.in_default.is))

pub returns-in_default-texts_at : goal.returns-in_default-texts_at
returns-in_default-texts_at c =
    says _ (laws.file_refusal _ _ _ _ _ _ _ _ c.refusal-in_default-texts_at.ensures
    ∙ sym (laws.version_is _ c.if-s-gt32768.false c.u32_at.ensures c.in-Some.is
    ∙ laws.on_broken _ _ c.texts_at.ensures c.in_default-texts_at.is))

pub returns : goal.returns
returns c =
    says _ (c.body_at.ensures _ ∙ sym (laws.version_is _ c.if-s-gt32768.false c.u32_at.ensures c.in-Some.is
    ∙ laws.on_to _ _ c.texts_at.ensures c.in-Some-texts_at.is ∙ laws.given_is _ _ c.section_into-b.ensures))
