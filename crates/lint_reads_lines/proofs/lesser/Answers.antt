use Rattle.lint_reads_lines.proofs.Laws as laws
use Rattle.lint_reads_lines.proofs.lesser.Goals as goal

pub returns-then-place-from : goal.returns-then-place-from
returns-then-place-from c = laws.lesser_before _ _ _ c.if-place-from.true

pub returns-then-place-best : goal.returns-then-place-best
returns-then-place-best c = laws.lesser_less _ _ _ c.if-place-from.false c.if-place-best.true

pub returns : goal.returns
returns c = laws.lesser_more _ _ _ c.if-place-from.false c.if-place-best.false
