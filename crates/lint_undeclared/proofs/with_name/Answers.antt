use Rattle.lint_undeclared.proofs.Laws as laws
use Rattle.lint_undeclared.proofs.with_name.Goals as goal

pub returns-then-count-lt64 : goal.returns-then-count-lt64
returns-then-count-lt64 c = laws.with_place _ _ _ c.if-count-lt64.true

pub returns : goal.returns
returns c = laws.with_none _ _ _ c.if-count-lt64.false
