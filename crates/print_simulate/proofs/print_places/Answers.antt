use native.Mathlib.Omega.{arith}
use Rattle.print_simulate.proofs.print_places.Goals as goal

pub returns : goal.returns
returns c = λ many h. c.print_finals.ensures (omega arith) (c.print_records-m.ensures many h)
