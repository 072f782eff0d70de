use native.Mathlib.Omega.{arith}
use Rattle.engine_schedule.proofs.Laws as laws
use Rattle.engine_schedule.proofs.why_stop.Goals as goal

pub returns-then-st-ne0 : goal.returns-then-st-ne0
returns-then-st-ne0 c = laws.why_full _ _ _ _ c.if-st-ne0.true

pub returns-then-left-eq0 : goal.returns-then-left-eq0
returns-then-left-eq0 c =
    laws.why_next _ _ _ _ _ _ _ c.if-st-ne0.false c.next_of-n.ensures c.in-Take.is
    (laws.take_none _ c.if-left-eq0.true) (λ e. omega arith)

pub returns-in-Stop : goal.returns-in-Stop
returns-in-Stop c =
    laws.why_next _ _ _ _ _ _ _ c.if-st-ne0.false c.next_of-n.ensures c.in-Stop.is
    (laws.stop_is _) (λ e. omega arith)

pub returns-in-Space : goal.returns-in-Space
returns-in-Space c =
    laws.why_next _ _ _ _ _ _ _ c.if-st-ne0.false c.next_of-n.ensures c.in-Space.is
    (laws.space_is _) (λ e. omega arith)

pub returns-else-left-eq0 : goal.returns-else-left-eq0
returns-else-left-eq0 c =
    laws.why_next _ _ _ _ _ _ _ c.if-st-ne0.false c.next_of-n.ensures c.in-Take.is
    (laws.take_some _ c.if-left-eq0.false) (λ e. omega (arith, c.if-left-eq0.false))
