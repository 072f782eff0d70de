use Rattle.checker_judge.specs.Judging.{guarded_m}
use Rattle.checker_judge.proofs.guarded.Goals as goal

pub returns : goal.returns
unfolding guarded_m
returns c =
    rw (
      ← c.is_no.ensures,
      ← c.is_unknown.ensures,
      ← c.fails_if-failure.ensures,
      ← c.unsure-memory.ensures,
    )
