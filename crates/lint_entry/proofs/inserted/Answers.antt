use Rattle.lint_entry.proofs.Laws as laws
use borrow.Author.Rules.{rules}
use Rattle.lint_entry.proofs.inserted.Goals as goal

pub entries-l-requires : goal.entries-l-requires
entries-l-requires c = laws.given_few _ _ c.given_of-given.ensures c.requires

pub notes-out-requires : goal.notes-out-requires
notes-out-requires c = c.requires.rules

pub returns : goal.returns
returns c = laws.inserts _ _ _ _ _ _ c.clear.ensures c.given_of-given.ensures c.entries-l.ensures c.notes-out.ensures
