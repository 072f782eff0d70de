use borrow.Author.Rules.{rules}
use Rattle.show.proofs.Laws as show
use Rattle.lint_words.proofs.Laws as laws
use Rattle.lint_words.proofs.put_certainty.Goals as goal

pub returns-in-0 : goal.returns-in-0
returns-in-0 c =
    show.is (laws.certainty_0 _ c.in-0.is)
    c.put.ensures

pub returns-in-1 : goal.returns-in-1
returns-in-1 c =
    show.is (laws.certainty_1 _ c.in-1.is)
    c.put-in-1.ensures

pub returns-in_default : goal.returns-in_default
returns-in_default c = show.is (laws.certainty_other _ (search rules) (search rules)) c.put-in_default.ensures
