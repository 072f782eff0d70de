use Rattle.show.proofs.Laws as show
use Rattle.simulate_lines.proofs.Lengths as lengths
use Rattle.print_simulate.proofs.print_numbers.Goals as goal

pub returns : goal.returns
returns c =
    show.kept c.args.n (show.both c.put_steps-a.ensures
    (show.both c.put_records-b.ensures c.put_horizon.ensures))
    (lengths.numbers_short c.args.steps c.args.records c.args.horizon) c.room-m.ensures.1
