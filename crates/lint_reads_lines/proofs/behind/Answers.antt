use Rattle.lint_reads_lines.proofs.Laws as laws
use Rattle.lint_reads_lines.proofs.behind.Goals as goal

pub returns-then-place-gt65535 : goal.returns-then-place-gt65535
returns-then-place-gt65535 c = laws.behind_last _ c.if-place-gt65535.true

pub returns : goal.returns
returns c = laws.behind_next _ c.if-place-gt65535.false
