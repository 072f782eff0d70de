use Prim.Native.Nat.{◌-◌}
use Rattle.lint_collect.proofs.Laws as laws
use Rattle.lint_collect.proofs.about.Goals as goal

pub returns : goal.returns
returns c =
    laws.about_is _ _ _ _ _ c.number_at-line.ensures c.past.ensures c.number_at-column.ensures
    c.with.ensures c.highest.ensures
