use mathlib.Core.Path.{sym}
use Prim.Native.Nat.{◌-◌}
use Rattle.lint_conditions.proofs.Laws as laws
use Rattle.lint_walk.specs.Raw.{past}
use borrow.Author.Rules.{rules}
use Rattle.lint_conditions.proofs.guard.Goals as goal

pub returns-then-byte_at-ne1 : goal.returns-then-byte_at-ne1
returns-then-byte_at-ne1 c = sym (laws.guard_other _ _ _ _ c.byte_at.ensures c.if-byte_at-ne1.true)

pub returns-then-place_at-x : goal.returns-then-place_at-x
returns-then-place_at-x c =
    sym (laws.guard_entity _ _ _ _ c.byte_at.ensures (search rules) c.past.ensures
    c.place_at.ensures c.if-place_at-x.true)

pub returns : goal.returns
returns c =
    laws.guard_is _ _ _ _ c.byte_at.ensures (search rules) c.past.ensures c.place_at.ensures (search rules)
    c.past-2.ensures c.place_at-2.ensures
