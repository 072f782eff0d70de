use Rattle.show.proofs.Laws as show
use Rattle.print_minimize.proofs.Laws as laws
use Rattle.print_minimize.proofs.put_place.Goals as goal

pub returns : goal.returns
returns c = show.is (laws.place_is _ _ c.text_start-at.ensures) c.put_quoted_text.ensures
