use mathlib.Core.Path.{◌∙◌}
use Prim.Native.Nat.{◌-◌}
use Rattle.lint_access.proofs.Laws as laws
use Rattle.lint_walk.specs.Raw.{past}
use Rattle.lint_access.proofs.add_predicate.Goals as goal

pub returns-then-byte_at-eq0 : goal.returns-then-byte_at-eq0
returns-then-byte_at-eq0 c =
    c.add_entity.ensures ∙ laws.predicate_yes _ _ _ _ c.byte_at.ensures c.if-byte_at-eq0.true
    c.past.ensures c.place_at-place.ensures

pub returns : goal.returns
returns c = laws.predicate_no _ _ _ _ c.byte_at.ensures c.if-byte_at-eq0.false
