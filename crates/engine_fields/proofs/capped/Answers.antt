use Rattle.engine_fields.proofs.Laws as laws
use Rattle.engine_fields.proofs.capped.Goals as goal

pub returns-then-p-gt4294967295 : goal.returns-then-p-gt4294967295
returns-then-p-gt4294967295 c = laws.cap_yes _ c.if-p-gt4294967295.true

pub returns : goal.returns
returns c = laws.cap_no _ c.if-p-gt4294967295.false
