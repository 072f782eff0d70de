use borrow.Author.Tests.{eq-eqb, ne_eqb, lt-ltb, le-ltb}
use Rattle.engine_evaluate.proofs.Laws as laws
use Rattle.engine_evaluate.specs.Actions.{stepped_m, next_m}
use Rattle.engine_evaluate.proofs.stepped.Goals as goal

pub returns-then-d-eq0 : goal.returns-then-d-eq0
unfolding stepped_m
returns-then-d-eq0 c = rw (eq-eqb _ _ c.if-d-eq0.true)

pub returns-then-d-gt17 : goal.returns-then-d-gt17
unfolding stepped_m
returns-then-d-gt17 c = rw (ne_eqb _ _ c.if-d-eq0.false, lt-ltb _ _ c.if-d-gt17.true)

pub returns-then-left-lt2 : goal.returns-then-left-lt2
unfolding stepped_m next_m
returns-then-left-lt2 c = rw (ne_eqb _ _ c.if-d-eq0.false, le-ltb _ _ c.if-d-gt17.false, ← c.place_in-p.ensures, lt-ltb _ _ c.if-left-lt2.true)

pub list_word-w-requires : goal.list_word-w-requires
list_word-w-requires c = laws.left_small _ _ c.place_in-p.ensures

pub returns : goal.returns
unfolding stepped_m next_m
returns c =
    rw (
      ne_eqb _ _ c.if-d-eq0.false,
      le-ltb _ _ c.if-d-gt17.false,
      ← c.place_in-p.ensures,
      le-ltb _ _ c.if-left-lt2.false,
      ← c.list_word-w.ensures,
    )
