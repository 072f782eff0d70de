use mathlib.Core.Path.{refl}
use native.Mathlib.Omega.{arith}
use Rattle.fukhtsege.proofs.Laws as laws
use Rattle.fukhtsege.proofs.fukhtsege_cone.Goals as goal

pub returns-then-answer-lt68 : goal.returns-then-answer-lt68
returns-then-answer-lt68 c = laws.too_short c.if-answer-lt68.true tt

pub returns : goal.returns
returns c =
    laws.answered (omega (arith, c.if-answer-lt68.false)) c.cone-r.result c.cone-r.ensures refl
    c.put_cone.ensures
