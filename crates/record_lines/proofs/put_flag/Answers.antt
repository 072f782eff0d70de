use Rattle.show.proofs.Laws as show
use Rattle.record_lines.proofs.Laws as laws
use Rattle.record_lines.proofs.put_flag.Goals as goal

pub returns-then-number-eq1 : goal.returns-then-number-eq1
returns-then-number-eq1 c = show.is (laws.on _ c.if-number-eq1.true) c.put.ensures

pub returns : goal.returns
returns c = show.is (laws.off _ c.if-number-eq1.false) c.put-2.ensures
