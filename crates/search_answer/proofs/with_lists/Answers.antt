use Rattle.search_answer.proofs.Laws as laws
use Rattle.search_answer.proofs.with_lists.Goals as goal

pub returns : goal.returns
returns c = laws.with_lists_is _ c.with_lists-check.ensures
