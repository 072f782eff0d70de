use mathlib.Core.Path.{sym, ◌∙◌}
use Rattle.model_order.proofs.Laws as laws
use Rattle.model_order.proofs.precedes.Goals as goal

pub returns-then-as_texts : goal.returns-then-as_texts
returns-then-as_texts c = c.text_before.ensures ∙ sym (laws.by_text _ _ _ c.if-as_texts.true)

pub returns : goal.returns
returns c = c.place_before.ensures ∙ sym (laws.by_place _ _ _ c.if-as_texts.false)
