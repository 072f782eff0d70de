use Rattle.checker_judge.specs.Judging.{goal_at, seen_m, within_at}
use Rattle.checker_judge.proofs.seen_at.Goals as goal

pub returns : goal.returns
unfolding seen_m goal_at within_at
returns c =
    rw (
      ← c.after-p.ensures,
      ← c.after_predicate-q.ensures,
      ← c.evaluate-cause.ensures,
      ← c.evaluate-goal.ensures,
      ← c.evaluate-earlier.ensures,
      ← c.after_predicate.ensures,
      ← c.four_at-within.ensures,
    )
