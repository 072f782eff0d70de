use mathlib.Core.Path.{◌∙◌}
use Rattle.cone_sets.proofs.Laws as laws
use Rattle.cone_sets.proofs.add_toggle.Goals as goal

pub returns-then-kind_at-eq1 : goal.returns-then-kind_at-eq1
returns-then-kind_at-eq1 c =
    c.add_entity.ensures ∙ laws.toggle_yes _ _ _ _ c.kind_at.ensures c.if-kind_at-eq1.true
    c.past.ensures c.place_at-place.ensures

pub returns : goal.returns
returns c = laws.toggle_no _ _ _ _ c.kind_at.ensures c.if-kind_at-eq1.false
