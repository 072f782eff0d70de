use native.Mathlib.Omega.{arith}
use Rattle.show.proofs.Laws as show
use Rattle.print_simulate.proofs.print_refused.Goals as goal

pub returns : goal.returns
returns c =
    show.kept c.args.n c.put_refused.ensures (omega (arith, show.length_refused c.args.number))
    c.room-m.ensures.1
