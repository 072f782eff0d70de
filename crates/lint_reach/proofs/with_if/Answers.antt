use mathlib.Core.Path.{sym, ◌∙◌}
use Rattle.lint_reach.proofs.ComponentLaws as parts
use Rattle.lint_reach.proofs.with_if.Goals as goal

pub returns-then-test : goal.returns-then-test
returns-then-test c = c.with.ensures ∙ sym (parts.with_yes _ _ c.if-test.true)

pub returns : goal.returns
returns c = sym (parts.with_no _ _ c.if-test.false)
