use Rattle.lint_findings.proofs.Laws as laws
use Rattle.lint_findings.proofs.finding.Goals as goal

pub returns : goal.returns
returns c = laws.about_is _ _ _ _ _ _
