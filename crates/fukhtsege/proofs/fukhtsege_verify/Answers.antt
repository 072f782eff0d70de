use mathlib.Core.Path.{refl}
use native.Mathlib.Omega.{arith}
use Rattle.fukhtsege.proofs.Laws as laws
use Rattle.fukhtsege.proofs.fukhtsege_verify.Goals as goal

pub returns-then-answer-lt6076 : goal.returns-then-answer-lt6076
returns-then-answer-lt6076 c = laws.too_short c.if-answer-lt6076.true (refl, refl)

pub returns : goal.returns
returns c =
    laws.answered (omega (arith, c.if-answer-lt6076.false)) _ c.verify_lent-v.ensures c.refusal_of.ensures
    c.put_verification.ensures
