use Rattle.checker_entry.proofs.Laws as laws
use Rattle.checker_entry.proofs.check_events.Goals as goal

pub returns-then-s-ne0 : goal.returns-then-s-ne0
returns-then-s-ne0 c =
    laws.checked_full c.run_events-s.ensures
    c.if-s-ne0.true

pub returns : goal.returns
returns c = laws.checked_done c.run_events-s.ensures c.if-s-ne0.false c.verdict.ensures
