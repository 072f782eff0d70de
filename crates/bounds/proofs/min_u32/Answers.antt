use Rattle.bounds.proofs.Laws as laws
use Rattle.bounds.proofs.min_u32.Goals as goal

pub returns : goal.returns
returns c = laws.smaller c.min.ensures
