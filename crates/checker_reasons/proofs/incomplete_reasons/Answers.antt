use Rattle.checker_reasons.specs.Reasons.{incomplete_m}
use Rattle.checker_reasons.proofs.incomplete_reasons.Goals as goal

pub returns : goal.returns
unfolding incomplete_m
returns c = rw (← c.capped.ensures, ← c.about.ensures) c.told_if.ensures
