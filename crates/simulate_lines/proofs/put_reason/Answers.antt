use Rattle.show.proofs.Laws as show
use Rattle.simulate_lines.proofs.Laws as laws
use Rattle.simulate_lines.proofs.put_reason.Goals as goal

pub returns : goal.returns
returns c =
    show.is (laws.reason_is _ _ _ _ c.get-r.ensures)
    c.put_reason_line.ensures
