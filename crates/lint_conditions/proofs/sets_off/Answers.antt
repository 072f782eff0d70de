use mathlib.Core.Path.{sym}
use Prim.Native.Nat.{◌-◌}
use Rattle.lint_conditions.proofs.Laws as laws
use Rattle.lint_walk.specs.Raw.{past}
use borrow.Author.Rules.{rules}
use Rattle.lint_conditions.proofs.sets_off.Goals as goal

pub returns-then-place_at-ne-NO_PLACE : goal.returns-then-place_at-ne-NO_PLACE
returns-then-place_at-ne-NO_PLACE c = sym (laws.sets_noted _ _ _ _ _ c.past.ensures c.place_at.ensures c.if-place_at-ne-NO_PLACE.true)

pub returns-then-place_at-x : goal.returns-then-place_at-x
returns-then-place_at-x c =
    sym (laws.sets_other _ _ _ _ _ c.past.ensures c.place_at.ensures (search rules) c.place_at-2.ensures
    c.if-place_at-x.true)

pub returns-then-v-star : goal.returns-then-v-star
returns-then-v-star c =
    sym (laws.sets_star _ _ _ _ _ c.past.ensures c.place_at.ensures (search rules)
    c.place_at-2.ensures (search rules) c.if-v-star.true)

pub returns-then-to-eq-NO_PLACE : goal.returns-then-to-eq-NO_PLACE
returns-then-to-eq-NO_PLACE c =
    sym (laws.sets_any _ _ _ _ _ c.past.ensures c.place_at.ensures (search rules) c.place_at-2.ensures
    (search rules) c.if-v-star.false c.past-2.ensures c.place_at-to.ensures c.if-to-eq-NO_PLACE.true)

pub returns : goal.returns
returns c =
    laws.sets_is _ _ _ _ _ c.past.ensures c.place_at.ensures (search rules) c.place_at-2.ensures (search rules)
    c.if-v-star.false c.past-2.ensures c.place_at-to.ensures c.if-to-eq-NO_PLACE.false
