use mathlib.Core.Path.{ap, ◌∙◌}
use Prim.Native.Nat.{◌-◌}
use Rattle.lint_areas.specs.Areas.{finding}
use Rattle.lint_findings.proofs.Laws as laws
use Rattle.lint_conditions.specs.Conditions.{contradictory_m}
use Rattle.lint_findings.proofs.own_findings.Goals as goal

pub returns : goal.returns
returns c =
    λ i. laws.own_is _ _ _ _ _ _ (laws.with_finding _
    (c.contradictory-first.ensures ∙ ap (contradictory_m _) c.conditions_at.ensures) c.finding.ensures
    (c.push_if-p.ensures i)) (laws.with_finding _ c.mismatched-second.ensures c.finding-2.ensures
    (c.push_if-q.ensures i)) (laws.with_finding _ c.delayed-third.ensures c.finding-3.ensures
    (c.push_if.ensures i))
