use Rattle.lint_areas.proofs.Laws as laws
use borrow.Author.Rules.{rules}
use Rattle.lint_areas.proofs.push_finding.Goals as goal

pub returns-then-o-ne0 : goal.returns-then-o-ne0
returns-then-o-ne0 c = λ i. laws.finding_after _ _ _ _ c.if-o-ne0.true

pub returns-then-findings-n : goal.returns-then-findings-n
returns-then-findings-n c = λ i. laws.finding_full _ _ _ _ (search rules) c.if-findings-n.true

pub returns : goal.returns
returns c =
    λ i. laws.finding_in _ _ _ _ _ (search rules) c.if-findings-n.false
    c.put.ensures
