use borrow.Author.Rules.{rules}
use Rattle.show.proofs.Laws as show
use Rattle.record_lines.proofs.Laws as laws
use Rattle.record_lines.proofs.put_verdict.Goals as goal

pub returns-in-0 : goal.returns-in-0
returns-in-0 c = show.is (laws.yes _ c.in-0.is) c.put.ensures

pub returns-in-1 : goal.returns-in-1
returns-in-1 c = show.is (laws.no _ c.in-1.is) c.put-in-1.ensures

pub returns-in_default : goal.returns-in_default
returns-in_default c = show.is (laws.neither _ (search rules) (search rules)) c.put-in_default.ensures
