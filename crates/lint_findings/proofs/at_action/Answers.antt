use mathlib.Core.Path.{◌∙◌}
use Prim.Native.Nat.{◌-◌}
use Rattle.lint_areas.specs.Areas.{finding}
use Rattle.lint_findings.proofs.Laws as laws
use Rattle.lint_findings.proofs.at_action.Goals as goal

pub returns : goal.returns
returns c =
    c.finding.ensures ∙ laws.action_is _ _ _ _ _ _ c.number_at-line.ensures c.past.ensures
    c.number_at-column.ensures
