use Rattle.checker_reasons.specs.Reasons.{about_m}
use Rattle.checker_reasons.proofs.about.Goals as goal

pub returns : goal.returns
unfolding about_m
returns c = rw (← c.two_at.ensures.0, ← c.text_position.ensures)
