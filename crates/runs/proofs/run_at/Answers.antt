use Rattle.runs.specs.Runs.{run_at}
use Rattle.runs.proofs.run_at.Goals as goal

pub returns : goal.returns
unfolding run_at
returns c =
    rw (
      c.phase_at-phase.ensures,
      c.places_at-places.ensures,
    )
