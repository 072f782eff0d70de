use Rattle.lint_reads_lines.proofs.Laws as laws
use Rattle.lint_reads_lines.proofs.set_at.Goals as goal

pub returns-then-i-lt32 : goal.returns-then-i-lt32
returns-then-i-lt32 c = laws.set_in _ _ c.if-i-lt32.true

pub returns : goal.returns
returns c = laws.set_out _ _ c.if-i-lt32.false
