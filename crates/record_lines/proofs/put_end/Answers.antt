use native.Mathlib.Omega.{arith}
use borrow.Author.Rules.{rules}
use Rattle.show.proofs.Laws as show
use Rattle.record_lines.proofs.Laws as laws
use Rattle.record_lines.proofs.put_end.Goals as goal

pub returns-in-0-to-9 : goal.returns-in-0-to-9
returns-in-0-to-9 c = show.is (laws.fixed c.args.number _ (omega arith)) (show.nothing _ _)

pub returns-in-10 : goal.returns-in-10
returns-in-10 c = show.is (laws.verdict _ _ (omega arith) (omega arith)) c.put_verdict.ensures

pub returns-in_default : goal.returns-in_default
returns-in_default c = show.is (laws.number _ _ (omega arith) (search rules) (search rules)) c.put_number.ensures
