use Rattle.show.proofs.Laws as show
use Rattle.check_lines.proofs.Laws as laws
use Rattle.check_lines.proofs.put_deadline.Goals as goal

pub returns : goal.returns
returns c =
    show.is (laws.deadline_is _) (show.both c.put-a.ensures
    (show.both c.put_number-b.ensures c.put.ensures))
