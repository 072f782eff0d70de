use mathlib.Core.Path.{sym}
use Rattle.model_sections.proofs.Laws as laws
use Rattle.model_sections.proofs.bad_place.Goals as goal

pub returns-then-n-eq0 : goal.returns-then-n-eq0
returns-then-n-eq0 c =
    sym (laws.place_empty _ _ c.text_start-at.ensures c.text_len-n.ensures.0
    c.if-n-eq0.true)

pub returns : goal.returns
returns c =
    sym (laws.place_other _ _ c.text_start-at.ensures c.text_len-n.ensures.0
    c.if-n-eq0.false)
