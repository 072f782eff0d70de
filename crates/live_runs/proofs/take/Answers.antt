use borrow.Author.Rules.{rules}
use Rattle.live_runs.proofs.Laws as laws
use Rattle.live_runs.proofs.take.Goals as goal

pub returns : goal.returns
returns c = (
  c.take_run.ensures,
  laws.went _ _ _ _ _ _ (search rules) c.automation_at-automation.ensures c.lower.ensures,
)
