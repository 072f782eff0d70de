use native.Mathlib.Omega.{arith}
use Rattle.print_simulate.proofs.print_lent.Goals as goal

pub returns : goal.returns
returns c =
    λ many h. c.print_incomplete.ensures (omega arith)
    (c.print_unknown-l.ensures (omega arith) (c.print_places-k.ensures (omega arith)
    (c.print_numbers-m.ensures many h)))
