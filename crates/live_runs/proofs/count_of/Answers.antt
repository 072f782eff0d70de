use borrow.Author.Rules.{rules}
use Rattle.live_runs.proofs.count_of.Goals as goal

pub returns : goal.returns
returns c = record { is = λ l k. k.each _ (search rules) }
