use mathlib.Core.Path.{sym, ◌∙◌}
use Prim.Native.Nat.{◌-◌}
use Rattle.lint_conditions.proofs.Laws as laws
use Rattle.lint_walk.specs.Raw.{past}
use borrow.Author.Rules.{rules}
use Rattle.lint_conditions.proofs.meets.Goals as goal

pub returns-then-byte_at-ne0 : goal.returns-then-byte_at-ne0
returns-then-byte_at-ne0 c = sym (laws.meets_note _ _ _ c.byte_at.ensures c.if-byte_at-ne0.true)

pub returns : goal.returns
returns c =
    c.clashes.ensures ∙ laws.meets_is _ _ _ c.byte_at.ensures (search rules) c.past.ensures
    c.place_at-x.ensures c.past-2.ensures c.place_at-v.ensures
    c.predicate_end.ensures
