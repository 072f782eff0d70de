use mathlib.Core.Path.{refl, sym}
use Rattle.lint_conditions.proofs.Laws as tests
use Rattle.lint_pairs.proofs.Laws as laws
use Rattle.lint_pairs.proofs.opposing.Goals as goal

pub returns-then-kind_at-gt1 : goal.returns-then-kind_at-gt1
returns-then-kind_at-gt1 c = sym (laws.opposing_none _ _ _ _ _ c.kind_at.ensures c.if-kind_at-gt1.true)

pub returns-then-x-y : goal.returns-then-x-y
returns-then-x-y c =
    laws.opposing_is _ _ _ _ _ c.kind_at.ensures c.if-kind_at-gt1.false c.past.ensures
    c.place_at-y.ensures refl (sym (tests.opposed_other _ _ _ _ _ c.if-x-y.true))

pub returns : goal.returns
returns c =
    laws.opposing_is _ _ _ _ _ c.kind_at.ensures c.if-kind_at-gt1.false c.past.ensures c.place_at-y.ensures
    c.value.ensures c.opposed.ensures
