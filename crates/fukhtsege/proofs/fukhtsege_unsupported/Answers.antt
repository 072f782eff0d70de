use mathlib.Core.Path.{refl}
use native.Mathlib.Omega.{arith}
use Rattle.fukhtsege.proofs.Laws as laws
use Rattle.fukhtsege.proofs.fukhtsege_unsupported.Goals as goal

pub returns-then-answer-lt1504 : goal.returns-then-answer-lt1504
returns-then-answer-lt1504 c = laws.too_short c.if-answer-lt1504.true tt

pub returns : goal.returns
returns c =
    laws.answered (omega (arith, c.if-answer-lt1504.false)) c.unsupported-r.result c.unsupported-r.ensures refl
    c.put_notes.ensures
