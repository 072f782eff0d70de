use Rattle.search_answer.proofs.Laws as laws
use borrow.Author.Rules.{rules}
use Rattle.search_answer.proofs.no_witness.Goals as goal

pub refused_judgement-check-requires : goal.refused_judgement-check-requires
refused_judgement-check-requires c = search rules

pub returns : goal.returns
returns c = laws.without_is c.refused_judgement-check.ensures
