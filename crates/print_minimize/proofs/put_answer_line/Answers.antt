use Rattle.show.proofs.Laws as show
use Rattle.print_minimize.proofs.Laws as laws
use Rattle.print_minimize.proofs.put_answer_line.Goals as goal

pub returns-then-so : goal.returns-then-so
returns-then-so c = show.is (laws.yes_is _ c.if-so.true) (show.both c.put-a.ensures c.put.ensures)

pub returns : goal.returns
returns c = show.is (laws.no_is _ c.if-so.false) (show.both c.put-a.ensures c.put-2.ensures)
