use Rattle.show.proofs.Laws as show
use Rattle.check_lines.proofs.Laws as laws
use Rattle.check_lines.proofs.put_quoted_identifier.Goals as goal

pub returns : goal.returns
returns c =
    show.is (laws.quoted_is _ _ _ _ c.place_of.ensures c.text_start-at.ensures)
    c.put_quoted_text.ensures
