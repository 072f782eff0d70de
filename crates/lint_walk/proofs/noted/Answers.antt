use mathlib.Core.Path.{sym}
use Rattle.lint_walk.proofs.Laws as laws
use Rattle.lint_walk.proofs.noted.Goals as goal

pub returns-then-count-lt512 : goal.returns-then-count-lt512
returns-then-count-lt512 c = sym (laws.noted_in _ c.if-count-lt512.true)

pub returns : goal.returns
returns c = sym (laws.noted_out _ c.if-count-lt512.false)
