use Rattle.cone_close.proofs.Laws as laws
use Rattle.cone_close.proofs.adds.Goals as goal

pub returns-then-has : goal.returns-then-has
returns-then-has c = laws.adds_no _ _ _ c.has.ensures c.if-has.true

pub returns : goal.returns
returns c =
    laws.adds_is _ _ _ c.has.ensures
    c.if-has.false
