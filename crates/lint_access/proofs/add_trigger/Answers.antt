use mathlib.Core.Path.{◌∙◌}
use Prim.Native.Nat.{◌-◌}
use Rattle.lint_access.proofs.Laws as laws
use Rattle.lint_walk.specs.Raw.{past}
use Rattle.lint_access.proofs.add_trigger.Goals as goal

pub returns-then-place_at-eq-NO_PLACE : goal.returns-then-place_at-eq-NO_PLACE
returns-then-place_at-eq-NO_PLACE c =
    c.add_entity.ensures ∙ laws.trigger_yes _ _ _ _ c.past.ensures c.place_at.ensures
    c.if-place_at-eq-NO_PLACE.true c.place_at-place.ensures

pub returns : goal.returns
returns c = laws.trigger_no _ _ _ _ c.past.ensures c.place_at.ensures c.if-place_at-eq-NO_PLACE.false
