use mathlib.Core.Path.{refl}
use Rattle.lint_notes.proofs.Laws as laws
use Rattle.lint_notes.proofs.note_words.Goals as goal

pub returns : goal.returns
returns c = laws.words_is _ _ _ _ _ _ refl
