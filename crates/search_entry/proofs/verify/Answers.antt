use Rattle.search_entry.proofs.Laws as laws
use Rattle.search_entry.proofs.verify.Goals as goal

pub returns : goal.returns
returns c = laws.verifies_as c.with_lists.ensures c.verify_lent-x.ensures
