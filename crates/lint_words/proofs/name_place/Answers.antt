use Rattle.lint_words.proofs.Laws as laws
use Rattle.lint_words.proofs.name_place.Goals as goal

pub returns : goal.returns
returns c = laws.place_is _ _ _ _ _ c.start_at.ensures c.place_at.ensures
