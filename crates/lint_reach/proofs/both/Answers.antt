use mathlib.Core.Path.{sym}
use Rattle.lint_reach.proofs.ComponentLaws as parts
use Rattle.lint_reach.proofs.both.Goals as goal

pub returns-then-reach-i : goal.returns-then-reach-i
returns-then-reach-i c = sym (parts.both_yes _ _ _ c.if-reach-i.true)

pub returns : goal.returns
returns c = sym (parts.both_no _ _ _ c.if-reach-i.false)
