use mathlib.Core.Path.{sym, ◌∙◌}
use Rattle.lint_walk.proofs.Laws as laws
use Rattle.lint_walk.proofs.number_at.Goals as goal

pub returns-in_default : goal.returns-in_default
returns-in_default c = sym (laws.number_is _ _ ∙ laws.value_broken c.u32_at.ensures c.in_default.is)

pub returns : goal.returns
returns c = sym (laws.number_is _ _ ∙ laws.value_got c.u32_at.ensures c.in-Some.is)
