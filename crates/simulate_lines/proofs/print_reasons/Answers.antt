use native.Mathlib.Omega.{arith}
use borrow.Author.Rules.{rules}
use Prim.Native.Nat.{◌-◌}
use Rattle.simulate_lines.proofs.print_reasons.Goals as goal

pub loop-i-preserved : goal.loop-i-preserved
loop-i-preserved c = (search rules, λ many h. c.print_reason-m.ensures (omega arith) (c.loop-i.invariant.1 many h))

pub returns : goal.returns
returns c = c.loop-i.invariant.1
