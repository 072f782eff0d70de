use mathlib.Core.Path.{refl}
use Rattle.runs.specs.Runs.{run_at, run_of}
use Rattle.runs.proofs.run_of.Goals as goal

pub returns : goal.returns
unfolding run_of run_at
returns c = refl
