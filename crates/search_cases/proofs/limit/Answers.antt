use Rattle.search_cases.proofs.Laws as laws
use borrow.Author.Rules.{rules}
use Rattle.search_cases.proofs.limit.Goals as goal

pub capped-p-requires : goal.capped-p-requires
capped-p-requires c = search rules

pub overflow_cast-p : goal.overflow_cast-p
overflow_cast-p c = search rules

pub overflow_add-p : goal.overflow_add-p
overflow_add-p c = search rules

pub four_at-requires : goal.four_at-requires
four_at-requires c = search rules

pub returns : goal.returns
returns c = laws.limit_is _ _ _ c.capped-p.ensures c.four_at.ensures
