use Rattle.lint_conditions.specs.Context.{section_of}
use Rattle.lint_undeclared.proofs.Laws as laws
use Rattle.lint_undeclared.proofs.with_strange.Goals as goal

pub returns-then-first_of-count : goal.returns-then-first_of-count
returns-then-first_of-count c = laws.read_declared _ (section_of _ _) _ _ _ c.first_of.ensures.0 c.if-first_of-count.true

pub returns : goal.returns
returns c =
    laws.read_is _ (section_of _ _) _ _ _ c.first_of.ensures.0 c.if-first_of-count.false
    c.with_name.ensures
