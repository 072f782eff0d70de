use Prim.Native.Nat.{◌-◌}
use Rattle.lint_areas.specs.Areas.{finding}
use Rattle.lint_findings.proofs.Laws as laws
use Rattle.lint_findings.proofs.first_findings.Goals as goal

pub returns : goal.returns
returns c =
    λ i. laws.first_is _ _ _ _ _ _ (c.own_findings-p.ensures i) (c.branch_findings-q.ensures i)
    (laws.with_finding _ c.many.ensures c.finding.ensures (c.push_if.ensures i))
