use mathlib.Core.Path.{refl}
use Rattle.runs.specs.Runs.{place_word}
use Rattle.runs.proofs.place_word.Goals as goal

pub returns : goal.returns
unfolding place_word
returns c = refl
