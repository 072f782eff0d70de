use Rattle.engine_entry.proofs.Entry as entry
use Rattle.engine_entry.proofs.simulate_lent.Goals as goal

pub returns-in-Refused : goal.returns-in-Refused
returns-in-Refused c = entry.simulate_refused _ _ c.accept-x.ensures c.in-Refused.is c.refused_summary.ensures _

pub returns-in-Read : goal.returns-in-Read
returns-in-Read c = entry.simulate_read _ _ c.accept-x.ensures c.in-Read.is c.run.ensures
