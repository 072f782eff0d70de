use Rattle.records.specs.Records.{change_at}
use Rattle.records.proofs.Laws as laws
use Rattle.records.proofs.change_at.Goals as goal

pub returns : goal.returns
unfolding change_at
returns c = laws.change_got _ _ _ c.change_of.ensures
