use Rattle.lint_areas.proofs.Laws as laws
use Rattle.lint_areas.proofs.push_if.Goals as goal

pub returns-then-test : goal.returns-then-test
returns-then-test c = λ i. laws.only_yes _ _ c.if-test.true (c.push_finding.ensures i)

pub returns : goal.returns
returns c = λ i. laws.only_no _ c.if-test.false
