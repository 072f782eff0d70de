use native.Mathlib.Omega.{arith}
use Rattle.print_minimize.proofs.Laws as laws
use Rattle.print_minimize.proofs.print_lent.Goals as goal

pub returns-then-x-ne0 : goal.returns-then-x-ne0
returns-then-x-ne0 c = omega (arith, c.print_refused.ensures)

pub returns : goal.returns
returns c = laws.written_fits c.minimize-x.ensures c.minimize-x.auto.output
