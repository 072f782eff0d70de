use Rattle.lint_reads_lines.proofs.Laws as laws
use Rattle.lint_reads_lines.proofs.counted.Goals as goal

pub returns-then-place-gt65535 : goal.returns-then-place-gt65535
returns-then-place-gt65535 c = laws.counted_none _ _ c.if-place-gt65535.true

pub returns : goal.returns
returns c = laws.counted_one _ _ c.if-place-gt65535.false
