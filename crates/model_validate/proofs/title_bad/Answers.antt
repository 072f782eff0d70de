use mathlib.Core.Path.{sym}
use Rattle.model_sections.proofs.Laws as parts
use Rattle.model_validate.proofs.Laws as laws
use Rattle.model_validate.proofs.title_bad.Goals as goal

pub returns-in_default : goal.returns-in_default
returns-in_default c = sym (laws.title_broken _ _ c.u16_at.ensures c.in_default.is)

pub returns-then-numbers-ne-FORMAT_VERSION : goal.returns-then-numbers-ne-FORMAT_VERSION
returns-then-numbers-ne-FORMAT_VERSION c = sym (laws.title_version _ _ c.u16_at.ensures c.in-Some.is c.if-numbers-ne-FORMAT_VERSION.true)

pub returns : goal.returns
returns c =
    sym (laws.title_length _ _ c.u16_at.ensures c.in-Some.is c.if-numbers-ne-FORMAT_VERSION.false
    (parts.place_length _ _ c.text_start-at.ensures c.text_len.ensures.0))
