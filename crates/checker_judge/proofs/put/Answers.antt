use borrow.Author.Tests.{lt-ltb, le-ltb}
use Rattle.checker_judge.specs.Judging.{set_m}
use Rattle.checker_judge.proofs.put.Goals as goal

pub returns-then-e-lt32 : goal.returns-then-e-lt32
unfolding set_m
returns-then-e-lt32 c = rw (lt-ltb _ _ c.if-e-lt32.true)

pub returns-else-e-lt32 : goal.returns-else-e-lt32
unfolding set_m
returns-else-e-lt32 c = rw (le-ltb _ _ c.if-e-lt32.false)
