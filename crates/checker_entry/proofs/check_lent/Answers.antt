use Rattle.checker_entry.proofs.Entry as entry
use Rattle.checker_entry.proofs.check_lent.Goals as goal

pub returns-in-Refused : goal.returns-in-Refused
returns-in-Refused c = entry.check_refused _ _ c.accept-x.ensures c.in-Refused.is c.refused_judgement.ensures _

pub returns-in-Read : goal.returns-in-Read
returns-in-Read c = entry.check_read _ _ c.accept-x.ensures c.in-Read.is c.run.ensures
