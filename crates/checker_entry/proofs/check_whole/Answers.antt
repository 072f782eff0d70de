use Rattle.checker_entry.proofs.Laws as laws
use Rattle.checker_entry.proofs.check_whole.Goals as goal

pub returns : goal.returns
returns c = laws.whole_as c.with_lists.ensures c.check_settled-j.ensures
