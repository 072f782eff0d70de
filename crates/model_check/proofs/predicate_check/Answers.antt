use mathlib.Core.Path.{sym, ◌∙◌}
use borrow.Author.Tests.{eq-eqb, ne_eqb}
use Rattle.model_walk.proofs.Laws.{size_some}
use Rattle.model_check.proofs.Laws as laws
use Rattle.model_check.proofs.predicate_check.Goals as goal

pub returns-in_default : goal.returns-in_default
returns-in_default c =
    sym (laws.predicate_is _ _ _ _ _
    ∙ laws.by_broken _ _ _ _ _ c.u8_at.ensures c.in_default.is)

pub returns-then-kind-eq0 : goal.returns-then-kind-eq0
returns-then-kind-eq0 c =
    c.pair_check.ensures ∙ sym (laws.predicate_is _ _ _ _ _
    ∙ laws.by_is _ _ _ _ _ c.u8_at.ensures c.in-Some.is
    ∙ laws.yes_check _ _ _ _ _ (eq-eqb _ _ c.if-kind-eq0.true))

pub overflow_sub-predicate_size : goal.overflow_sub-predicate_size
overflow_sub-predicate_size c = size_some _ _ c.predicate_size.ensures

pub returns-then-kind-eq1 : goal.returns-then-kind-eq1
returns-then-kind-eq1 c =
    c.skip.ensures ∙ laws.skip_size _ _ _ _ _ c.predicate_size.ensures
    ∙ sym (laws.predicate_is _ _ _ _ _
    ∙ laws.by_is _ _ _ _ _ c.u8_at.ensures
    c.in-Some.is
    ∙ laws.no_check _ _ _ _ _ (ne_eqb _ _ c.if-kind-eq0.false)
    ∙ laws.yes_check _ _ _ _ _ (eq-eqb _ _ c.if-kind-eq1.true))

pub returns-then-banned-eq0 : goal.returns-then-banned-eq0
returns-then-banned-eq0 c =
    c.window_check.ensures ∙ sym (laws.predicate_is _ _ _ _ _
    ∙ laws.by_is _ _ _ _ _ c.u8_at.ensures c.in-Some.is
    ∙ laws.no_check _ _ _ _ _ (ne_eqb _ _ c.if-kind-eq0.false)
    ∙ laws.no_check _ _ _ _ _ (ne_eqb _ _ c.if-kind-eq1.false)
    ∙ laws.yes_check _ _ _ _ _ (eq-eqb _ _ c.if-banned-eq0.true))

pub returns : goal.returns
returns c =
    sym (laws.predicate_is _ _ _ _ _ ∙ laws.by_is _ _ _ _ _ c.u8_at.ensures c.in-Some.is
    ∙ laws.no_check _ _ _ _ _ (ne_eqb _ _ c.if-kind-eq0.false)
    ∙ laws.no_check _ _ _ _ _ (ne_eqb _ _ c.if-kind-eq1.false)
    ∙ laws.no_check _ _ _ _ _ (ne_eqb _ _ c.if-banned-eq0.false) ∙ laws.refused_is _ _ _ _)
