use borrow.Author.Tests.{eq-eqb, ne_eqb}
use Rattle.checker_judge.specs.Names.{predicate_m}
use Rattle.checker_judge.proofs.name_predicate.Goals as goal

pub returns-then-byte_at-eq1 : goal.returns-then-byte_at-eq1
unfolding predicate_m
returns-then-byte_at-eq1 c = rw (← c.byte_at.ensures.0, eq-eqb _ _ c.if-byte_at-eq1.true)

pub returns : goal.returns
unfolding predicate_m
returns c =
    rw (← c.byte_at.ensures.0, ne_eqb _ _ c.if-byte_at-eq1.false, ← c.two_at.ensures.0)
    c.name.ensures
