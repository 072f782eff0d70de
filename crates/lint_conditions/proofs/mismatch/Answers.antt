use mathlib.Core.Path.{sym, ◌∙◌}
use Prim.Native.Nat.{◌-◌}
use Rattle.lint_conditions.proofs.Laws as laws
use Rattle.lint_walk.specs.Raw.{past}
use borrow.Author.Rules.{rules}
use Rattle.lint_conditions.proofs.mismatch.Goals as goal

pub returns-then-place_at-ne-NO_PLACE : goal.returns-then-place_at-ne-NO_PLACE
returns-then-place_at-ne-NO_PLACE c = sym (laws.mismatch_noted _ _ _ c.past.ensures c.place_at.ensures c.if-place_at-ne-NO_PLACE.true)

pub returns-then-to-eq-NO_PLACE : goal.returns-then-to-eq-NO_PLACE
returns-then-to-eq-NO_PLACE c =
    sym (laws.mismatch_any _ _ _ c.past.ensures c.place_at.ensures (search rules)
    c.past-2.ensures c.place_at-to.ensures c.if-to-eq-NO_PLACE.true)

pub returns : goal.returns
returns c =
    c.clashes.ensures ∙ laws.mismatch_is _ _ _ c.past.ensures c.place_at.ensures (search rules)
    c.past-2.ensures c.place_at-to.ensures c.if-to-eq-NO_PLACE.false c.place_at-x.ensures
    c.place_at-count.ensures c.past-3.ensures
