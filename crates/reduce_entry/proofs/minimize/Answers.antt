use Rattle.reduce_entry.proofs.Entry as entry
use Rattle.reduce_entry.proofs.minimize.Goals as goal

pub run-requires : goal.run-requires
run-requires c = entry.model_of _ _ c.accept-x.ensures c.in-Read.is

pub returns-in-Refused : goal.returns-in-Refused
returns-in-Refused c = entry.minimize_refused _ _ c.accept-x.ensures c.in-Refused.is c.refused.ensures _ _

pub returns-in-Read : goal.returns-in-Read
returns-in-Read c = entry.minimize_read _ _ c.accept-x.ensures c.in-Read.is c.run.ensures
