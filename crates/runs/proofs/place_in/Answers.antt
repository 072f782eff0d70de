use mathlib.Core.Path.{refl}
use Rattle.runs.specs.Runs.{place_in}
use Rattle.runs.proofs.place_in.Goals as goal

pub returns : goal.returns
unfolding place_in
returns c = refl
