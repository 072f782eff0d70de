use Rattle.cone_close.proofs.Laws as laws
use Rattle.cone_close.proofs.round.Goals as goal

pub returns-then-k-count : goal.returns-then-k-count
returns-then-k-count c = laws.round_yes _ _ _ _ c.first-k.ensures c.if-k-count.true c.with.ensures

pub returns : goal.returns
returns c = laws.round_no _ _ _ _ c.first-k.ensures c.if-k-count.false
