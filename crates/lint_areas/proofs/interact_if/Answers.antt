use Rattle.lint_areas.proofs.Laws as laws
use Rattle.lint_areas.proofs.interact_if.Goals as goal

pub returns-then-test : goal.returns-then-test
returns-then-test c = λ f. laws.only_yes _ _ c.if-test.true (c.push_interaction.ensures f)

pub returns : goal.returns
returns c = λ f. laws.only_no _ c.if-test.false
