use Prim.Native.Nat.{◌-◌}
use Rattle.lint_findings.proofs.Laws as laws
use Rattle.lint_findings.proofs.rule_findings.Goals as goal

pub writes_findings-requires : goal.writes_findings-requires
writes_findings-requires c = c.requires

pub returns : goal.returns
returns c =
    laws.rule_is _ _ _ _ _ _ _ _ _ (c.first_findings-p.ensures _) (c.fresh_findings-q.ensures _)
    c.writes_findings.ensures
