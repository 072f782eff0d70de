use Rattle.checker_entry.proofs.check_settled.Goals as goal

pub returns : goal.returns
returns c = record { result = _; checked = c.check_events-j.ensures; answered = c.settled.ensures }
