use mathlib.Core.Path.{sym, ◌∙◌}
use borrow.Author.Tests.{eq-eqb, ne_eqb}
use Rattle.model_check.proofs.Laws as checks
use Rattle.model_sections.proofs.Laws as laws
use Rattle.model_sections.proofs.input_check.Goals as goal

pub returns-in_default : goal.returns-in_default
returns-in_default c =
    sym (laws.input_is _ _ _ _ ∙ checks.by_broken _ _ _ _ _ c.u8_at.ensures
    c.in_default.is)

pub returns-then-kind-eq0 : goal.returns-then-kind-eq0
returns-then-kind-eq0 c =
    c.pair_check.ensures ∙ sym (laws.input_is _ _ _ _ ∙ checks.by_is _ _ _ _ _ c.u8_at.ensures c.in-Some.is
    ∙ checks.yes_check _ _ _ _ _ (eq-eqb _ _ c.if-kind-eq0.true))

pub returns : goal.returns
returns c =
    sym (laws.input_is _ _ _ _ ∙ checks.by_is _ _ _ _ _ c.u8_at.ensures c.in-Some.is
    ∙ checks.no_check _ _ _ _ _ (ne_eqb _ _ c.if-kind-eq0.false) ∙ checks.stayed _ _ _)
