use mathlib.Core.Path.{sym}
use Rattle.lint_undeclared.proofs.Laws as laws
use Rattle.lint_undeclared.proofs.awaits_at.Goals as goal

pub returns-then-kind_at-ne5 : goal.returns-then-kind_at-ne5
returns-then-kind_at-ne5 c =
    sym
    (laws.await_other _ _ _ c.kind_at.ensures c.if-kind_at-ne5.true)

pub returns : goal.returns
returns c =
    laws.await_is _ _ _ c.kind_at.ensures c.if-kind_at-ne5.false c.past.ensures
    c.place_at.ensures
