use Rattle.checker_judge.specs.Judging.{guard_m}
use Rattle.checker_judge.proofs.read_guard.Goals as goal

pub returns-then-is_about : goal.returns-then-is_about
unfolding guard_m
returns-then-is_about c =
    rw (
      ← c.is_about.ensures,
      c.if-is_about.true,
      ← c.after.ensures,
      ← c.evaluate_all-judged.ensures,
    ) c.guarded.ensures

pub returns : goal.returns
unfolding guard_m
returns c = rw (← c.is_about.ensures, c.if-is_about.false)
