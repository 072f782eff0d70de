use Rattle.reduce.proofs.Laws as laws
use Rattle.reduce.proofs.tried.Goals as goal

pub returns-then-number-ne0 : goal.returns-then-number-ne0
returns-then-number-ne0 c = laws.tried_full c.if-number-ne0.true

pub returns-then-stays : goal.returns-then-stays
returns-then-stays c = laws.tried_kept c.if-number-ne0.false c.if-stays.true

pub returns : goal.returns
returns c = laws.tried_passed c.if-number-ne0.false c.if-stays.false
