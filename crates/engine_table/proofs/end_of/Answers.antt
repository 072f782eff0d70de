use Rattle.engine_table.proofs.Laws as laws
use Rattle.engine_table.proofs.end_of.Goals as goal

pub returns-in-Some : goal.returns-in-Some
returns-in-Some c = laws.end_to _ c.in-Some.is

pub returns-in-None : goal.returns-in-None
returns-in-None c = laws.end_broken _ c.in-None.is
