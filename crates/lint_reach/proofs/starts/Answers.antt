use mathlib.Core.Path.{sym, ◌∙◌}
use Rattle.lint_reach.proofs.ComponentLaws as parts
use Rattle.lint_reach.proofs.starts.Goals as goal

pub returns-then-has : goal.returns-then-has
returns-then-has c =
    sym
    (parts.starts_held _ _ _ (sym c.has.ensures ∙ c.if-has.true))

pub returns : goal.returns
returns c = sym (parts.starts_free _ _ _ (sym c.has.ensures ∙ c.if-has.false))
