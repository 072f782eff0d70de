use mathlib.Core.Path.{refl}
use native.Mathlib.Omega.{arith}
use Rattle.fukhtsege.proofs.Laws as laws
use Rattle.fukhtsege.proofs.fukhtsege_check.Goals as goal

pub returns-then-answer-lt4000 : goal.returns-then-answer-lt4000
returns-then-answer-lt4000 c = laws.too_short c.if-answer-lt4000.true refl

pub returns : goal.returns
returns c = laws.answered (omega (arith, c.if-answer-lt4000.false)) _ c.check_lent-j.ensures refl c.put_check.ensures
