use Rattle.runs.specs.Runs.{run_at}
use Rattle.runs.proofs.phase_at.Goals as goal

pub returns : goal.returns
unfolding run_at
returns c = c.phase_of.ensures
