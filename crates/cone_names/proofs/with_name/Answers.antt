use Rattle.cone_names.proofs.Laws as laws
use Rattle.cone_names.proofs.with_name.Goals as goal

pub returns-then-count-lt64 : goal.returns-then-count-lt64
returns-then-count-lt64 c = laws.with_place _ _ c.if-count-lt64.true

pub returns : goal.returns
returns c = laws.with_none _ _ c.if-count-lt64.false
