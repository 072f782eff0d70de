use Rattle.show.proofs.Laws as show
use Rattle.lint_words.proofs.Laws as laws
use Rattle.lint_words.proofs.put_inner_name.Goals as goal

pub returns : goal.returns
returns c =
    show.is (laws.inner_name _ _ _ _ _ c.name_place.ensures c.text_start-at.ensures)
    c.put_inner.ensures
