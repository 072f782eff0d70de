use mathlib.Core.Path.{sym, ◌∙◌}
use Rattle.lint_reach.proofs.ComponentLaws as parts
use Rattle.lint_reach.proofs.with_component.Goals as goal

pub returns-then-starts : goal.returns-then-starts
returns-then-starts c =
    parts.next_is _ _ _ _ _ _ (sym c.starts.ensures ∙ c.if-starts.true) c.component-set.ensures
    c.union.ensures

pub returns : goal.returns
returns c = sym (parts.next_no _ _ _ _ (sym c.starts.ensures ∙ c.if-starts.false))
