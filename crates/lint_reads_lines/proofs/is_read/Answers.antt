use Rattle.lint_reads_lines.proofs.Laws as laws
use Rattle.lint_reads_lines.proofs.is_read.Goals as goal

pub returns-then-k-r : goal.returns-then-k-r
returns-then-k-r c = laws.read_is _ _ _ _ c.wide.ensures c.if-k-r.true

pub returns : goal.returns
returns c = laws.not_read _ _ _ c.if-k-r.false
