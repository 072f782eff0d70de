use borrow.Author.Rules.{rules}
use Rattle.show.proofs.Laws as show
use Rattle.simulate_lines.proofs.Laws as laws
use Rattle.simulate_lines.proofs.put_halted.Goals as goal

pub returns-in-0 : goal.returns-in-0
returns-in-0 c = show.is (laws.none_spent _ c.in-0.is) (show.nothing _ _)

pub returns-in-1 : goal.returns-in-1
returns-in-1 c =
    show.is (laws.space _ c.in-1.is)
    c.put_text_line.ensures

pub returns-in_default : goal.returns-in_default
returns-in_default c = show.is (laws.steps _ (search rules) (search rules)) c.put_text_line-in_default.ensures
