use mathlib.Core.Path.{refl}
use Rattle.live_runs.proofs.Laws as laws
use Rattle.live_runs.proofs.push.Goals as goal

pub returns-then-push_run : goal.returns-then-push_run
returns-then-push_run c = (
  laws.pushed_as c.if-push_run.true c.push_run.ensures,
  laws.went_in _ _ _ _ c.raise.ensures,
)

pub returns : goal.returns
returns c = (laws.pushed_as c.if-push_run.false c.push_run.ensures, laws.no_room _ _ _ _ refl)
