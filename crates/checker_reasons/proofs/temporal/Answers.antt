use Rattle.checker_reasons.specs.Reasons.{temporal_m}
use Rattle.checker_reasons.proofs.temporal.Goals as goal

pub returns-then-m-2 : goal.returns-then-m-2
unfolding temporal_m
returns-then-m-2 c = rw (c.if-m.true, c.if-m-2.true)

pub returns-then-m : goal.returns-then-m
unfolding temporal_m
returns-then-m c = rw (c.if-m.true, c.if-m-2.false)

pub returns : goal.returns
unfolding temporal_m
returns c = rw c.if-m.false c.told_if.ensures
