use Rattle.lint_entry.proofs.Laws as laws
use Rattle.lint_entry.proofs.given_of.Goals as goal

pub returns : goal.returns
returns c = laws.given_is _ _ _ _ _ c.place_of.ensures c.place_of-2.ensures c.place_of-3.ensures
