use Rattle.engine_summary.proofs.Laws as laws
use Rattle.engine_summary.proofs.settled.Goals as goal

pub returns-then-b-ne0 : goal.returns-then-b-ne0
returns-then-b-ne0 c =
    laws.settled_full _ _ c.if-b-ne0.true _
    c.refused_summary.ensures

pub returns : goal.returns
returns c = laws.settled_done _ _ c.if-b-ne0.false
