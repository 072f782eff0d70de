use mathlib.Core.Path.{sym, ◌∙◌}
use Rattle.model_index.proofs.Laws as laws
use Rattle.model_index.proofs.file_of.Goals as goal

pub returns-in-Refused : goal.returns-in-Refused
returns-in-Refused c = c.refused.ensures ∙ sym (laws.file_refused _ _ _ _ _ _ _ _ c.in-Refused.is)

pub returns : goal.returns
returns c =
    laws.file_made _ _ _ _ _ _ _ _ c.in_default.is c.section.ensures c.section-2.ensures
    c.section-3.ensures c.section-4.ensures c.section-5.ensures c.section-6.ensures
    c.section-7.ensures
