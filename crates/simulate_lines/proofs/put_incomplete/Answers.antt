use Rattle.show.proofs.Laws as show
use Rattle.simulate_lines.proofs.Laws as laws
use Rattle.simulate_lines.proofs.put_incomplete.Goals as goal

pub returns-then-waiting : goal.returns-then-waiting
returns-then-waiting c =
    show.is (laws.left _ _ c.if-waiting.true) (show.both c.put_halted-m.ensures
    c.put_text_line.ensures)

pub returns : goal.returns
returns c = show.is (laws.none_left _ _ c.if-waiting.false) c.put_halted-m.ensures
