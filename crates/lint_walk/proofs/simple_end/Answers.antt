use borrow.Author.Rules.{rules}
use mathlib.Core.Path.{sym, ◌∙◌}
use Rattle.lint_walk.proofs.Laws as laws
use Rattle.lint_walk.proofs.simple_end.Goals as goal

pub returns-in-0 : goal.returns-in-0
returns-in-0 c = c.past.ensures ∙ sym (laws.simple_0 _ _ c.in-0.is)

pub returns-in-2 : goal.returns-in-2
returns-in-2 c = c.past-in-2.ensures ∙ sym (laws.simple_2 _ _ c.in-2.is)

pub returns-in-3 : goal.returns-in-3
returns-in-3 c = c.predicate_end.ensures ∙ sym (laws.simple_3 _ _ c.in-3.is)

pub returns-in-5 : goal.returns-in-5
returns-in-5 c = c.past-in-5.ensures ∙ sym (laws.simple_5 _ _ c.in-5.is)

pub returns-in_default : goal.returns-in_default
returns-in_default c =
    c.past-in_default.ensures
    ∙ sym (laws.simple_else _ _ (search rules) (search rules) (search rules) (search rules))
