use mathlib.Core.Path.{refl}
use Rattle.runs.specs.Runs.{run_at}
use Rattle.runs.proofs.automation_at.Goals as goal

pub returns : goal.returns
unfolding run_at
returns c = refl
