use Rattle.checker_judge.specs.Judging.{never_m}
use Rattle.checker_judge.proofs.read_never.Goals as goal

pub returns : goal.returns
unfolding never_m
returns c =
    rw (
      ← c.after.ensures,
      ← c.evaluate_all-judged.ensures,
      ← c.is_yes.ensures,
      ← c.is_unknown.ensures,
      ← c.fails_if-failure.ensures,
      ← c.unsure-memory.ensures,
    )
