use Rattle.show.proofs.Laws as show
use Rattle.simulate_lines.proofs.Lengths as lengths
use Rattle.simulate_lines.proofs.print_incomplete.Goals as goal

pub returns : goal.returns
returns c =
    show.kept c.args.n c.put_incomplete.ensures
    (lengths.incomplete_short c.args.why c.args.waiting) c.room-m.ensures.1
