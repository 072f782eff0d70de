use Rattle.checker_reasons.specs.Reasons.{if_m}
use Rattle.checker_reasons.proofs.told_if.Goals as goal

pub returns-then-b : goal.returns-then-b
unfolding if_m
returns-then-b c = rw c.if-b.true

pub returns : goal.returns
unfolding if_m
returns c = rw c.if-b.false
