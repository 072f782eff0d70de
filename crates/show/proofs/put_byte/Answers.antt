use native.Mathlib.Omega.{arith}
use Rattle.show.proofs.Laws as laws
use borrow.Author.Rules.{rules}
use Rattle.show.proofs.put_byte.Goals as goal

pub returns-then-out-n : goal.returns-then-out-n
returns-then-out-n c = laws.too_long _ _ _ _ (omega arith) (omega arith)

pub returns : goal.returns
returns c = laws.one _ _ _ (search rules)
