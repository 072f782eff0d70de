use Rattle.search_answer.proofs.Laws as laws
use borrow.Author.Rules.{rules}
use Rattle.search_answer.proofs.refused.Goals as goal

pub refused_judgement-check-requires : goal.refused_judgement-check-requires
refused_judgement-check-requires c = search rules

pub returns : goal.returns
returns c = laws.refused_is _ c.refused_judgement-check.ensures
