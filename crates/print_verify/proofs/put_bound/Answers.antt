use Rattle.show.proofs.Laws as show
use Rattle.print_verify.proofs.Laws as laws
use Rattle.print_verify.proofs.put_bound.Goals as goal

pub returns : goal.returns
returns c = show.is (laws.bound_is _ _) (show.both c.put-a.ensures c.put_number.ensures)
