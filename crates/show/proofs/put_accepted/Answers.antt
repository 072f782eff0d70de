use Rattle.show.proofs.Laws as laws
use Rattle.show.proofs.put_accepted.Goals as goal

pub returns : goal.returns
returns c = laws.is laws.accepted_is c.put.ensures
