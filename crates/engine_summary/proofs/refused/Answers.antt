use mathlib.Core.Path.{refl}
use Rattle.engine_summary.specs.Summary.{no_simulation}
use Rattle.engine_summary.proofs.refused.Goals as goal

pub returns : goal.returns
unfolding no_simulation
returns c = refl
