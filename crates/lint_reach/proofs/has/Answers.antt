use Rattle.lint_reach.proofs.ComponentLaws as parts
use Rattle.lint_reach.proofs.has.Goals as goal

pub returns : goal.returns
returns c = parts.has_is _ _
