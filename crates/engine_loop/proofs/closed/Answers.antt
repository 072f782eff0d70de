use native.Mathlib.Omega.{arith}
use Rattle.engine_loop.proofs.Laws as laws
use Rattle.engine_loop.proofs.closed.Goals as goal

pub returns-then-d-ne0 : goal.returns-then-d-ne0
returns-then-d-ne0 c = laws.closed_why _ _ _ (omega (arith, c.requires)) c.if-d-ne0.true

pub returns-then-s-ne0 : goal.returns-then-s-ne0
returns-then-s-ne0 c = laws.closed_runs _ _ _ (omega (arith, c.requires)) c.if-d-ne0.false c.if-s-ne0.true

pub returns : goal.returns
returns c =
    laws.closed_end _ _ _ (omega (arith, c.requires)) _ _ c.horizon_reached-t.ensures c.if-d-ne0.false
    c.if-s-ne0.false
