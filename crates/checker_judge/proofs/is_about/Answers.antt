use borrow.Author.Tests.{eq-eqb, ne_eqb}
use Rattle.checker_judge.specs.Judging.{about_m}
use Rattle.checker_judge.proofs.is_about.Goals as goal

pub returns-then-r-eq2 : goal.returns-then-r-eq2
unfolding about_m
returns-then-r-eq2 c = rw (eq-eqb _ _ c.if-r-eq2.true) c.writes.ensures

pub returns : goal.returns
unfolding about_m
returns c = rw (ne_eqb _ _ c.if-r-eq2.false)
