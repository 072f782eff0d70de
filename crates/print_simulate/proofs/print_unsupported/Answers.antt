use native.Mathlib.Omega.{arith}
use Rattle.print_simulate.proofs.print_unsupported.Goals as goal

pub returns : goal.returns
returns c = λ many h. c.print_reasons.ensures (omega arith) (c.print_count-m.ensures many h)
