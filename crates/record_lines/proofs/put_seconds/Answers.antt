use Rattle.show.proofs.Laws as show
use Rattle.record_lines.proofs.Laws as laws
use Rattle.record_lines.proofs.put_seconds.Goals as goal

pub returns : goal.returns
returns c = show.is (laws.seconds _) (show.both c.put_number-m.ensures c.put.ensures)
