use mathlib.Core.Path.{sym, ◌∙◌}
use Rattle.engine_notes.proofs.Laws as notes
use Rattle.engine_unsupported.proofs.Laws as laws
use Rattle.engine_unsupported.proofs.head_at.Goals as goal

pub returns-in_default : goal.returns-in_default
returns-in_default c = sym (laws.head_is _ _ ∙ notes.read_broken _ _ _ _ _ c.u32_at.ensures c.in_default.is)

pub returns-in_default-u32_at : goal.returns-in_default-u32_at
returns-in_default-u32_at c =
    sym (laws.head_is _ _ ∙ notes.read_is _ _ _ _ _ c.u32_at.ensures c.in-Some.is
    ∙ notes.read_broken _ _ _ _ _ c.u32_at-2.ensures c.in_default-u32_at.is)

pub returns-in_default-u8_at : goal.returns-in_default-u8_at
returns-in_default-u8_at c =
    sym (laws.head_is _ _ ∙ notes.read_is _ _ _ _ _ c.u32_at.ensures c.in-Some.is
    ∙ notes.read_is _ _ _ _ _ c.u32_at-2.ensures c.in-Some-u32_at.is
    ∙ notes.read_broken _ _ _ _ _ c.u8_at.ensures c.in_default-u8_at.is)

pub returns : goal.returns
returns c =
    sym (laws.head_is _ _ ∙ notes.read_is _ _ _ _ _ c.u32_at.ensures c.in-Some.is
    ∙ notes.read_is _ _ _ _ _ c.u32_at-2.ensures c.in-Some-u32_at.is
    ∙ notes.read_is _ _ _ _ _ c.u8_at.ensures c.in-Some-u8_at.is)
