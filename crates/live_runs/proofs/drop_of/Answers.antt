use borrow.Author.Rules.{rules}
use Rattle.live_runs.proofs.Laws as laws
use Rattle.live_runs.proofs.drop_of.Goals as goal

pub returns : goal.returns
returns c = (c.drop_runs.ensures, record { is = λ l k. laws.emptied _ l k _ (search rules) })
