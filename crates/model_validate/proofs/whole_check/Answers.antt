use mathlib.Core.Path.{sym, ◌∙◌}
use Rattle.model_validate.proofs.Laws as laws
use Rattle.model_validate.proofs.whole_check.Goals as goal

pub returns-then-title_bad : goal.returns-then-title_bad
returns-then-title_bad c = sym (laws.model_1 _ _ _ _ _ _ _ _ (sym c.title_bad.ensures ∙ c.if-title_bad.true))

pub returns-then-size_bad : goal.returns-then-size_bad
returns-then-size_bad c =
    sym (laws.model_2 _ _ _ _ _ _ _ _ (sym c.title_bad.ensures ∙ c.if-title_bad.false)
    (sym c.size_bad.ensures ∙ c.if-size_bad.true))

pub returns-then-limits_bad : goal.returns-then-limits_bad
returns-then-limits_bad c =
    sym (laws.model_3 _ _ _ _ _ _ _ _ (sym c.title_bad.ensures ∙ c.if-title_bad.false)
    (sym c.size_bad.ensures ∙ c.if-size_bad.false)
    (sym c.limits_bad.ensures ∙ c.if-limits_bad.true))

pub returns-then-start_bad : goal.returns-then-start_bad
returns-then-start_bad c =
    sym (laws.model_start _ _ _ _ _ _ _ _ (sym c.title_bad.ensures ∙ c.if-title_bad.false)
    (sym c.size_bad.ensures ∙ c.if-size_bad.false)
    (sym c.limits_bad.ensures ∙ c.if-limits_bad.false)
    (sym c.start_bad.ensures ∙ c.if-start_bad.true))

pub returns-then-alphabet_bad : goal.returns-then-alphabet_bad
returns-then-alphabet_bad c =
    sym (laws.model_4 _ _ _ _ _ _ _ _ (sym c.title_bad.ensures ∙ c.if-title_bad.false)
    (sym c.size_bad.ensures ∙ c.if-size_bad.false)
    (sym c.limits_bad.ensures ∙ c.if-limits_bad.false)
    (sym c.start_bad.ensures ∙ c.if-start_bad.false)
    (sym c.alphabet_bad.ensures ∙ c.if-alphabet_bad.true))

pub sections_check-requires : goal.sections_check-requires
sections_check-requires c =
    laws.small _ _ _ _ (sym c.size_bad.ensures ∙ c.if-size_bad.false)
    (sym c.alphabet_bad.ensures ∙ c.if-alphabet_bad.false)

pub returns : goal.returns
returns c =
    c.sections_check.ensures ∙ sym (laws.model_is _ _ _ _ _ _ _ _
    (sym c.title_bad.ensures ∙ c.if-title_bad.false)
    (sym c.size_bad.ensures ∙ c.if-size_bad.false)
    (sym c.limits_bad.ensures ∙ c.if-limits_bad.false)
    (sym c.start_bad.ensures ∙ c.if-start_bad.false)
    (sym c.alphabet_bad.ensures ∙ c.if-alphabet_bad.false))
