use Prim.Native.Nat.{◌-◌}
use Rattle.lint_findings.proofs.Laws as laws
use Rattle.lint_findings.proofs.value.Goals as goal

pub returns-then-kind_at-eq1 : goal.returns-then-kind_at-eq1
returns-then-kind_at-eq1 c = laws.value_star _ _ _ c.kind_at.ensures c.if-kind_at-eq1.true

pub returns : goal.returns
returns c =
    laws.value_set _ _ _ c.kind_at.ensures c.if-kind_at-eq1.false c.past.ensures
    c.place_at.ensures
