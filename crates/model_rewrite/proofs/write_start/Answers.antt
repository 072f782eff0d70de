use lib.ListN.{length-set}
use native.Mathlib.Omega.{arith}
use Rattle.model_rewrite.proofs.Laws as laws
use borrow.Author.Rules.{rules}
use Rattle.model_rewrite.proofs.write_start.Goals as goal

pub bounds-out-1 : goal.bounds-out-1
bounds-out-1 c = simp length-set (omega arith)

pub bounds-out-2 : goal.bounds-out-2
bounds-out-2 c = simp length-set (omega arith)

pub bounds-out-3 : goal.bounds-out-3
bounds-out-3 c = simp length-set (omega arith)

pub returns : goal.returns
returns c = let a = c.args in laws.five a.out.now a.second a.kind (search rules)
