use native.Mathlib.Omega.{arith}
use borrow.Author.Rules.{rules}
use Prim.Native.Nat.{◌-◌}
use Rattle.record_lines.proofs.print_records.Goals as goal

pub loop-k-preserved : goal.loop-k-preserved
loop-k-preserved c = (search rules, λ many h. c.print_record-m.ensures (omega arith) (c.loop-k.invariant.1 many h))

pub returns : goal.returns
returns c = c.loop-k.invariant.1
