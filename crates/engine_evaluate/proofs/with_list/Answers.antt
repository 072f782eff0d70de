use borrow.Author.Tests.{eq-eqb, ne_eqb, lt-ltb, le-ltb}
use Rattle.engine_evaluate.specs.Actions.{list_m}
use Rattle.engine_evaluate.proofs.with_list.Goals as goal

pub returns-then-left-eq0 : goal.returns-then-left-eq0
unfolding list_m
returns-then-left-eq0 c = rw (← c.two_at-left.ensures.0, eq-eqb _ _ c.if-left-eq0.true)

pub returns-then-d-gt16 : goal.returns-then-d-gt16
unfolding list_m
returns-then-d-gt16 c = rw (← c.two_at-left.ensures.0, ne_eqb _ _ c.if-left-eq0.false, lt-ltb _ _ c.if-d-gt16.true)

pub returns : goal.returns
unfolding list_m
returns c =
    rw (
      ← c.two_at-left.ensures.0,
      ne_eqb _ _ c.if-left-eq0.false,
      le-ltb _ _ c.if-d-gt16.false,
      ← c.after.ensures,
      ← c.list_word-w.ensures,
    )
