use mathlib.Core.Path.{sym, ◌∙◌}
use Rattle.model_order.proofs.Laws as laws
use Rattle.model_order.proofs.texts_at.Goals as goal

pub returns-then-not-has : goal.returns-then-not-has
returns-then-not-has c = sym (laws.no_on _ _ (sym c.has.ensures ∙ c.if-not-has.true))

pub returns-then-not-has-2 : goal.returns-then-not-has-2
returns-then-not-has-2 c =
    sym (laws.no_off _ _ (sym c.has.ensures ∙ c.if-not-has.false)
    (sym c.has-2.ensures ∙ c.if-not-has-2.true))

pub returns-then-not-has-3 : goal.returns-then-not-has-3
returns-then-not-has-3 c =
    sym (laws.no_unknown _ _ (sym c.has.ensures ∙ c.if-not-has.false)
    (sym c.has-2.ensures ∙ c.if-not-has-2.false)
    (sym c.has-3.ensures ∙ c.if-not-has-3.true))

pub returns-then-not-has-4 : goal.returns-then-not-has-4
returns-then-not-has-4 c =
    sym (laws.no_unavailable _ _ (sym c.has.ensures ∙ c.if-not-has.false)
    (sym c.has-2.ensures ∙ c.if-not-has-2.false) (sym c.has-3.ensures ∙ c.if-not-has-3.false)
    (sym c.has-4.ensures ∙ c.if-not-has-4.true))

pub returns : goal.returns
returns c =
    c.ascending_at.ensures
    ∙ sym (laws.all_there _ _ (sym c.has.ensures ∙ c.if-not-has.false)
    (sym c.has-2.ensures ∙ c.if-not-has-2.false) (sym c.has-3.ensures ∙ c.if-not-has-3.false)
    (sym c.has-4.ensures ∙ c.if-not-has-4.false))
