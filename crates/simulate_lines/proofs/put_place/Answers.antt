use Rattle.show.proofs.Laws as show
use Rattle.simulate_lines.proofs.Texts as texts
use Rattle.simulate_lines.proofs.put_place.Goals as goal

pub returns-then-x-place : goal.returns-then-x-place
returns-then-x-place c =
    show.is (texts.past _ _ _ c.if-x-place.true)
    c.put.ensures

pub returns : goal.returns
returns c = show.is (texts.there _ _ _ _ c.text_start-at.ensures c.if-x-place.false) c.put_quoted_text.ensures
