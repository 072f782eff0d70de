use mathlib.Core.Path.{refl}
use Rattle.checker_judge.proofs.Laws as laws
use Rattle.checker_judge.proofs.is_quiet.Goals as goal

pub returns-then-n-k : goal.returns-then-n-k
returns-then-n-k c = laws.not_quiet _ _ _ _

pub returns : goal.returns
returns c = laws.quiet_is _ _ _ _ _ c.if-n-k.false c.change_at.ensures c.touches.ensures refl
