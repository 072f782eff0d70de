use Rattle.checker_entry.proofs.Laws as laws
use Rattle.checker_entry.proofs.check.Goals as goal

pub returns : goal.returns
returns c = laws.checks_as c.with_lists.ensures c.check_lent-j.ensures
