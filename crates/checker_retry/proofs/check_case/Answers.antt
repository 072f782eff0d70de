use mathlib.Core.Path.{sym, ◌∙◌}
use native.Mathlib.Omega.{arith}
use Rattle.checker_retry.proofs.Laws as laws
use Rattle.checker_retry.proofs.check_case.Goals as goal

pub check_events-requires : goal.check_events-requires
check_events-requires c = c.requires

pub shape_of-queue-then-is_refused : goal.shape_of-queue-then-is_refused
shape_of-queue-then-is_refused c = omega (arith, c.check_events.auto.queue, c.check_part-c.auto.queue)

pub shape_of-records-then-is_refused : goal.shape_of-records-then-is_refused
shape_of-records-then-is_refused c = omega (arith, c.check_events.auto.records, c.check_part-c.auto.records)

pub shape_of-runs-then-is_refused : goal.shape_of-runs-then-is_refused
shape_of-runs-then-is_refused c = omega (arith, c.check_events.auto.runs, c.check_part-c.auto.runs)

pub returns-then-is_refused : goal.returns-then-is_refused
returns-then-is_refused c =
    laws.whole_as c.check_events.ensures (omega (arith, c.check_part-c.auto.queue))
    (omega (arith, c.check_part-c.auto.records))
    (omega (arith, c.check_part-c.auto.runs))

pub returns : goal.returns
returns c =
    c.check_part-c.ensures
    (sym c.is_refused.ensures ∙ c.if-is_refused.false)
