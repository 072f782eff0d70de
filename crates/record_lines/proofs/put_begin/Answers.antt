use Rattle.show.proofs.Laws as show
use Rattle.record_lines.proofs.Numbers as numbers
use Rattle.record_lines.proofs.put_begin.Goals as goal

pub returns : goal.returns
returns c =
    show.is (numbers.begin_is _ _ c.text_start-at.ensures)
    c.put_text.ensures
