use Rattle.lint_words.proofs.Laws as laws
use Rattle.lint_words.proofs.start_at.Goals as goal

pub returns-then-i-lt100 : goal.returns-then-i-lt100
returns-then-i-lt100 c = laws.start_in _ _ c.if-i-lt100.true

pub returns : goal.returns
returns c = laws.start_out _ _ c.if-i-lt100.false
