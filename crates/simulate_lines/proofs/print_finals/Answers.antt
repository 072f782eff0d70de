use native.Mathlib.Omega.{arith}
use borrow.Author.Rules.{rules}
use Prim.Native.Nat.{◌-◌}
use Rattle.simulate_lines.proofs.print_finals.Goals as goal

pub loop-e-preserved : goal.loop-e-preserved
loop-e-preserved c = (search rules, λ many h. c.print_final-m.ensures (omega arith) (c.loop-e.invariant.1 many h))

pub returns : goal.returns
returns c = c.loop-e.invariant.1
