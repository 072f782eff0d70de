use mathlib.Core.Path.{refl}
use native.Mathlib.Omega.{arith}
use Rattle.fukhtsege.proofs.Laws as laws
use Rattle.fukhtsege.proofs.fukhtsege_minimize.Goals as goal

pub returns-then-answer-lt4408 : goal.returns-then-answer-lt4408
returns-then-answer-lt4408 c = laws.too_short c.if-answer-lt4408.true (refl, refl)

pub returns : goal.returns
returns c =
    laws.answered (omega (arith, c.if-answer-lt4408.false)) c.minimize-m.result c.minimize-m.ensures refl
    c.put_minimized.ensures
